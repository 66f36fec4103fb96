-- What a refused exchange leaves.
use Rattle.std.proofs.Common.{◌≡◌, ◌==◌, ℕ, false, cond, not, List, [], ◌∷◌, ◌++◌, map, refl, sym, ap, ◌∙◌, append_assoc}
use Rattle.std.specs.Prelude.{Result, Ok, Err, OnErr}
use Rattle.std.proofs.lemmas.List.{append-nil}
use Rattle.fm_delta.specs.declared.packet.Packet.{Packet}
use Rattle.fm_coord.specs.declared.entry.Range.TheVariants.{Full}
use Rattle.fm_coord.specs.declared.entry.Call.TheVariants as call
use Rattle.fm_coord.specs.declared.entry.Reply.TheVariants as reply
use Rattle.fm_coord.specs.States.{State, history_entry, took, gave, cut_packet}
use Rattle.fm_gossip.specs.Exchanges.{cut_off, merged_in, of_others, told_by_others, AreLeftCutting, IsLeftMerging, AreLeftMerging}

pub on_err : {T E : Type 0} {P : Type 0} (r : Result T E) → P → OnErr r P
on_err (Ok x) p = tt
on_err (Err e) p = p

-- a coordinator that merges

-- it merged this packet
abbrev pub merged_one : State → Packet → State
merged_one s p = took s p.value (history_entry 0 (call.Merge p) reply.Nothing)

merged_both : (s : State) (ps qs : List Packet) → merged_in (merged_in s ps) qs ≡ merged_in s (ps ++ qs)
merged_both s [] qs = refl
merged_both s (p ∷ ps) qs = merged_both (merged_one s p) ps qs

-- the first of the packets of the others were merged, and these are left
pub record SoFar (own : ℕ) (packets rest : List Packet) (old now : State) : Type 0 where
  pub before : List Packet
  pub split : of_others own packets ≡ before ++ of_others own rest
  pub merged : now ≡ merged_in old before

-- what is left was merged too
pub all_merged : (own : ℕ) (packets rest : List Packet) (old now : State) → SoFar own packets rest old now → rest ≡ [] → own ≡ old.number → now ≡ told_by_others packets old
all_merged own packets rest old now so none number =
    so.merged
    ∙ ap (merged_in old) (sym (append-nil so.before) ∙ ap (λ ps. so.before ++ of_others own ps) (sym none) ∙ sym so.split)
    ∙ ap (λ n. merged_in old (of_others n packets)) number

-- a packet of another is the first that is left
others_first : (own : ℕ) (p : Packet) (rest : List Packet) → (p.sender == own) ≡ false → of_others own (p ∷ rest) ≡ p ∷ of_others own rest
others_first own p rest other = ap (λ b. cond (not b) (p ∷ of_others own rest) (of_others own rest)) other

module _ (own : ℕ) (packets rest further : List Packet) (p : Packet) (old now new : State) (first : rest ≡ p ∷ further) (other : (p.sender == own) ≡ false) where
  left_is : of_others own rest ≡ p ∷ of_others own further
  left_is = ap (of_others own) first ∙ others_first own p further other

  -- it was merged
  pub one_more : SoFar own packets rest old now → new ≡ merged_one now p → SoFar own packets further old new
  one_more so took_it =
      record {
        before = so.before ++ p ∷ [];
        split = so.split ∙ ap (λ ps. so.before ++ ps) left_is ∙ sym (append_assoc so.before (p ∷ []) (of_others own further));
        merged = took_it ∙ ap (λ s. merged_one s p) so.merged ∙ merged_both old so.before (p ∷ []);
      }

  -- it was refused
  pub one_refused : SoFar own packets rest old now → own ≡ old.number → new ≡ now → IsLeftMerging packets old new
  one_refused so number same =
      record {
        merged = so.before;
        refused = p;
        later = of_others own further;
        of = ap (λ n. of_others n packets) (sym number) ∙ so.split ∙ ap (λ ps. so.before ++ ps) left_is;
        is = same ∙ so.merged;
      }

-- coordinators that cut, one after another, by what each shows

pub gave_whole : (s new : State) (p : Packet) → new ≡ gave s (history_entry 0 (call.Cut Full) (reply.Packet p)) → p ≡ cut_packet s Full → new ≡ cut_off s
gave_whole s new p given whole = given ∙ ap (λ q. gave s (history_entry 0 (call.Cut Full) (reply.Packet q))) whole

module _ {A : Type 0} (shown : A → State) (all rest : List A) (x : A) (new : State) (first : all ≡ x ∷ rest) (cut : new ≡ cut_off (shown x)) where
  -- the next one is refused, or memory ran out for the packet of this one
  pub one_cut : AreLeftCutting (map shown all) (new ∷ map shown rest)
  one_cut = record {
    cut = shown x ∷ [];
    uncut = map shown rest;
    were = ap (map shown) first;
    are = ap (λ s. s ∷ map shown rest) cut;
  }

  pub one_cut_more : (news : List State) → AreLeftCutting (map shown rest) news → AreLeftCutting (map shown all) (new ∷ news)
  one_cut_more news left = record {
    cut = shown x ∷ left.cut;
    uncut = left.uncut;
    were = ap (map shown) first ∙ ap (λ ss. shown x ∷ ss) left.were;
    are = ap (λ s. s ∷ news) cut ∙ ap (λ ss. cut_off (shown x) ∷ ss) left.are;
  }

-- coordinators that merge, one after another

module _ {A : Type 0} (shown : A → State) (packets : List Packet) (all rest : List A) (x : A) (new : State) (first : all ≡ x ∷ rest) where
  pub first_refused : IsLeftMerging packets (shown x) new → AreLeftMerging packets (map shown all) (new ∷ map shown rest)
  first_refused left = record {
    told = [];
    old = shown x;
    new = new;
    untold = map shown rest;
    were = ap (map shown) first;
    are = refl;
    midst = left;
  }

  pub one_told_more : (news : List State) → new ≡ told_by_others packets (shown x) → AreLeftMerging packets (map shown rest) news → AreLeftMerging packets (map shown all) (new ∷ news)
  one_told_more news told left = record {
    told = shown x ∷ left.told;
    old = left.old;
    new = left.new;
    untold = left.untold;
    were = ap (map shown) first ∙ ap (λ ss. shown x ∷ ss) left.were;
    are = ap (λ s. s ∷ news) told ∙ ap (λ ss. told_by_others packets (shown x) ∷ ss) left.are;
    midst = left.midst;
  }
