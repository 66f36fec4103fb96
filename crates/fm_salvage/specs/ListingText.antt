-- The records of a store's file as lines of text (this project's profile).
use Rattle.std.specs.Prelude.{◌≡◌, ◌⊎◌, ℕ, ◌+◌, ◌==◌, ◌||◌, nat_lt, cond, List, [], ◌∷◌, ◌++◌, length, map, sum_by, codes, decimal, Option}
use Rattle.std.specs.List.{flat_map}
use Rattle.fm_records.specs.Table.{Table}
use Rattle.fm_delta.specs.declared.packet.Packet.{Packet}
use Rattle.fm_store.specs.Frames.{frame}
use Rattle.fm_store.specs.Heads.{HeadModel, head_record}
use Rattle.fm_store.specs.declared.frames.Tail.{Tail}
use Rattle.fm_store.specs.declared.frames.Tail.TheVariants.{Clean, Torn, Damaged}
use Rattle.fm_salvage.specs.StoreFronts.{IsFront, HasNoHead, damage_of}

-- a byte of a label as it is shown: a control character as `?`, so that a label has one line
abbrev pub shown : ℕ → ℕ
shown b = cond (nat_lt b 32 || b == 127) 63 b

-- head 8 LENGTH COUNT NUMBER .. LABEL: how many bytes the record has, how many coordinators are listed and which, and the label
abbrev pub head_begin : ℕ → List ℕ → List ℕ
head_begin size numbers =
    codes "head 8 " ++ (decimal size ++ (codes " " ++ (decimal (length numbers) ++ (flat_map (λ n. codes " " ++ decimal n) numbers ++ codes " "))))

abbrev pub head_line : HeadModel → List ℕ
head_line head = head_begin (length (head_record head)) head.numbers ++ (map shown head.label ++ codes "\n")

-- how many proposals a table has, of all attempts
abbrev pub count_of_proposals : Table → ℕ
count_of_proposals k = sum_by (λ e. length e.1) k.proposals

-- packet PLACE LENGTH SENDER NUMBER JOBS TASKS MACHINES PROPOSALS: where its frame begins, how many bytes the record has, and how many
-- records of each kind the packet has
abbrev pub record_begin : ℕ → ℕ → Packet → List ℕ
record_begin place size p =
    codes "packet " ++ (decimal place ++ (codes " " ++ (decimal size ++ (codes " " ++ (decimal p.sender ++ (codes " " ++ decimal p.number))))))

abbrev pub record_counts_text : Table → List ℕ
record_counts_text k =
    codes " " ++ (decimal (length k.jobs) ++ (codes " " ++ (decimal (length k.tasks) ++ (codes " " ++ (decimal (length k.machines)
    ++ (codes " " ++ (decimal (count_of_proposals k) ++ codes "\n")))))))

abbrev pub record_line : ℕ → ℕ → Packet → List ℕ
record_line place size p = record_begin place size p ++ record_counts_text p.value

-- the lines of packets with their records, whose first frame begins at the place
abbrev pub lines_of_records : ℕ → List (List ℕ) → List Packet → List ℕ
lines_of_records place [] packets = []
lines_of_records place (r ∷ rs) [] = []
lines_of_records place (r ∷ rs) (p ∷ ps) = record_line place (length r) p ++ lines_of_records (place + length (frame r)) rs ps

-- how the file ends, unless it ends with a whole record
abbrev pub end_line : Tail → ℕ → List ℕ
end_line Clean place = []
end_line Torn place = codes "torn at byte " ++ (decimal place ++ codes "\n")
end_line Damaged place = codes "damaged at byte " ++ (decimal place ++ codes "\n")

-- the place of the first packet's frame
abbrev pub first_place : HeadModel → ℕ
first_place head = 8 + length (frame (head_record head))

-- the text of a file with this front
pub record IsFrontListed (bytes text : List ℕ) (damage : Option ℕ) : Type 0 where
  pub head : HeadModel
  pub records : List (List ℕ)
  pub packets : List Packet
  pub place : ℕ
  pub tail : Tail
  pub front : IsFront head records packets place tail bytes
  pub text_is : text ≡ head_line head ++ (lines_of_records (first_place head) records packets ++ end_line tail place)
  pub damage_is : damage ≡ damage_of tail place

-- and of a file that has no head
abbrev pub IsEndListed : List ℕ → List ℕ → Option ℕ → Type 0
IsEndListed bytes text damage = (tail : Tail) × (place : ℕ) × HasNoHead tail place bytes × (text ≡ end_line tail place) × (damage ≡ damage_of tail place)

-- the text lists the records before the end or the damage, and tells the place of the damage, if there is any
abbrev pub IsStoreListed : List ℕ → List ℕ → Option ℕ → Type 0
IsStoreListed bytes text damage = IsFrontListed bytes text damage ⊎ IsEndListed bytes text damage
