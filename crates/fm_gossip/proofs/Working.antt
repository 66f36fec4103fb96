-- What the threads of a fleet are given, and what they leave.
use Rattle.std.proofs.Common.{◌≡◌, ℕ, suc, ◌+◌, ◌<◌, List, [], ◌∷◌, ◌++◌, map, length, refl, subst, sym, ap, ◌∙◌, append_assoc, arith}
use Rattle.std.specs.Prelude.{Result, Ok, Err, IfOk, IfErr}
use Rattle.std.proofs.lemmas.List.{append-nil}
use Rattle.fm_inbox.specs.Ports.{InboxModel, PortPoolModel}
use Rattle.fm_gossip.specs.Served.{AreServed}
use Rattle.fm_gossip.specs.Members.{MemberModel, but_for, task_of}
use Rattle.fm_gossip.specs.Passing.{passed_at}
use Rattle.fm_gossip.specs.inner.Used.{new_port, AreUsed}
use Rattle.fm_gossip.specs.inner.Works.{WorkModel, MemberEndModel, LinksModel, links, links_of, HaveOut, HavePorts, linked_work, linked_works, works_of, AreDone, IsDoneUnless, AreDoneUnless, NoneEarly}

-- the links of one member more are made
pub next_links : (numbers : List ℕ) (bs now : List InboxModel) (before more : List LinksModel) (n k : ℕ) (m : MemberModel) (its rest whole : List MemberModel) (l : LinksModel) → its ≡ m ∷ rest → more ≡ before ++ l ∷ [] → l ≡ links (but_for m.number numbers) n (map new_port bs) → now ≡ bs → k ≡ n + 1
    → before ++ links_of numbers bs n its ≡ links_of numbers bs 0 whole → more ++ links_of numbers now k rest ≡ links_of numbers now 0 whole
next_links numbers bs now before more n k m its rest whole l these pushed made same next so_far =
    subst (λ z. more ++ links_of numbers z k rest ≡ links_of numbers z 0 whole) (sym same)
    (
    (λ i. pushed i ++ links_of numbers bs (next i) rest) ∙ append_assoc before (l ∷ []) (links_of numbers bs (n + 1) rest) ∙ ap (λ z. before ++ z ∷ links_of numbers bs (n + 1) rest) made
    ∙ ap (λ z. before ++ links_of numbers bs n z) (sym these)
    ∙ so_far
    )

-- the links of all are made
pub all_links : (numbers : List ℕ) (bs : List InboxModel) (n : ℕ) (its : List MemberModel) (ls whole : List LinksModel) → its ≡ [] → ls ++ links_of numbers bs n its ≡ whole → ls ≡ whole
all_links numbers bs n its ls whole none so_far = sym (append-nil ls) ∙ ap (λ z. ls ++ links_of numbers bs n z) (sym none) ∙ so_far

-- what the last member and its links come to
linked_end : (rounds : ℕ) (ms : List MemberModel) (ls : List LinksModel) (m : MemberModel) (l : LinksModel) → length ms ≡ length ls → linked_works rounds (ms ++ m ∷ []) (ls ++ l ∷ []) ≡ linked_works rounds ms ls ++ linked_work rounds m l ∷ []
linked_end rounds [] [] m l same = refl
linked_end rounds [] (k ∷ ls) m l same = absurd (omega (arith, same))
linked_end rounds (n ∷ ms) [] m l same = absurd (omega (arith, same))
linked_end rounds (n ∷ ms) (k ∷ ls) m l same = ap (λ ws. linked_work rounds n k ∷ ws) (linked_end rounds ms ls m l (omega (arith, same)))

pub linked_last : (rounds : ℕ) (all ms : List MemberModel) (given ls : List LinksModel) (m : MemberModel) (l : LinksModel) (ws more : List WorkModel) (w : WorkModel) → all ≡ ms ++ m ∷ [] → given ≡ ls ++ l ∷ [] → length ms ≡ length ls → ws ≡ linked_works rounds ms ls → w ≡ linked_work rounds m l → more ≡ ws ++ w ∷ [] → more ≡ linked_works rounds all given
linked_last rounds all ms given ls m l ws more w these those same before last pushed =
    pushed ∙ (λ i. before i ++ last i ∷ []) ∙ sym (linked_end rounds ms ls m l same) ∙ (λ i. linked_works rounds (sym these i) (sym those i))

pub linked_none : (rounds : ℕ) (ms : List MemberModel) (ls : List LinksModel) (ws : List WorkModel) → length ms ≡ 0 → ws ≡ [] → ws ≡ linked_works rounds ms ls
linked_none rounds [] ls ws none empty = empty
linked_none rounds (m ∷ ms) ls ws none empty = absurd (omega (arith, none))

-- members and the links made for them come to their works
pub linked_all : (numbers : List ℕ) (rounds : ℕ) (bs : List InboxModel) (at : ℕ) (ms : List MemberModel) → linked_works rounds ms (links_of numbers bs at ms) ≡ works_of numbers rounds bs at ms
linked_all numbers rounds bs at [] = refl
linked_all numbers rounds bs at (m ∷ ms) = ap (λ ws. linked_work rounds m (links (but_for m.number numbers) at (map new_port bs)) ∷ ws) (linked_all numbers rounds bs (at + 1) ms)

done_last : (ws : List WorkModel) (ds : List MemberEndModel) (w : WorkModel) (d : MemberEndModel) → AreDoneUnless ws ds → IsDoneUnless w d → AreDoneUnless (ws ++ w ∷ []) (ds ++ d ∷ [])
done_last [] [] w d before last = (last, tt)
done_last [] (x ∷ xs) w d before last = absurd before
done_last (x ∷ xs) [] w d before last = absurd before
done_last (x ∷ xs) (y ∷ ys) w d before last = (before.0, done_last xs ys w d before.1 last)

-- one member more at the end
pub one_more : (all ws : List WorkModel) (more ds : List MemberEndModel) (w : WorkModel) (d : MemberEndModel) → all ≡ ws ++ w ∷ [] → more ≡ ds ++ d ∷ [] → AreDoneUnless ws ds → IsDoneUnless w d → AreDoneUnless all more
one_more all ws more ds w d these pushed before last =
    subst (λ z. AreDoneUnless z more) (sym these) (subst (AreDoneUnless (ws ++ w ∷ [])) (sym pushed) (done_last ws ds w d before last))

-- no works are done by no members
pub none_done : (ds : List MemberEndModel) (ws : List WorkModel) → length ws ≡ 0 → length ds ≡ 0 → AreDoneUnless ws ds
none_done [] [] is none = tt
none_done (d ∷ ds) [] is none = absurd (omega (arith, none))
none_done ds (w ∷ ws) is none = absurd (omega (arith, is))

-- what holds of the value of an Ok comes to something else
pub each_ok : {T E : Type 0} {P Q : T → Type 0} (r : Result T E) → ((x : T) → P x → Q x) → IfOk r P → IfOk r Q
each_ok (Ok x) f h = f x h
each_ok (Err e) f h = h

-- what a thread left by its promise, or what was ended here
pub left_done : {H : Type 0} (promised : H → WorkModel) (r : Result H MemberEndModel) (w : WorkModel) (d : MemberEndModel) → IfOk r (λ h. promised h ≡ w) → IfErr r (IsDoneUnless w) → IfOk r (λ h. IsDoneUnless (promised h) d) → IfErr r (λ e. d ≡ e) → IsDoneUnless w d
left_done promised (Ok h) w d its here joined there = subst (λ z. IsDoneUnless z d) its joined
left_done promised (Err e) w d its here joined same = subst (IsDoneUnless w) (sym same) here

-- there are as many links as members
pub length-links_of : (numbers : List ℕ) (bs : List InboxModel) (at : ℕ) (ms : List MemberModel) → length (links_of numbers bs at ms) ≡ length ms
length-links_of numbers bs at [] = refl
length-links_of numbers bs at (m ∷ ms) = ap suc (length-links_of numbers bs (at + 1) ms)

-- the links of these members are those of members that are the same
pub linked_for : (bs : List InboxModel) (seen ms : List MemberModel) (ls : List LinksModel) → seen ≡ ms → ls ≡ links_of (map (λ m. m.number) seen) bs 0 seen → ls ≡ links_of (map (λ m. m.number) ms) bs 0 ms
linked_for bs seen ms ls same linked = linked ∙ ap (λ z. links_of (map (λ m. m.number) z) bs 0 z) same

-- if none ended early, all are done
all_done : (ws : List WorkModel) (ds : List MemberEndModel) → AreDoneUnless ws ds → NoneEarly ds → AreDone ws ds
all_done [] [] h none = tt
all_done [] (d ∷ ds) h none = absurd h
all_done (w ∷ ws) [] h none = absurd h
all_done (w ∷ ws) (d ∷ ds) h none = (h.0 none.0, all_done ws ds h.1 none.1)

served_by : (numbers : List ℕ) (rounds : ℕ) (bs : List InboxModel) (at : ℕ) (ms : List MemberModel) (ds : List MemberEndModel) → AreDone (works_of numbers rounds bs at ms) ds → AreServed (map (task_of numbers rounds) ms) (map (λ d. d.state) ds)
served_by numbers rounds bs at [] [] h = tt
served_by numbers rounds bs at [] (d ∷ ds) h = absurd h
served_by numbers rounds bs at (m ∷ ms) [] h = absurd h
served_by numbers rounds bs at (m ∷ ms) (d ∷ ds) h = (h.0.served, served_by numbers rounds bs (at + 1) ms ds h.1)

used_by : (numbers : List ℕ) (rounds : ℕ) (bs : List InboxModel) (at : ℕ) (ms : List MemberModel) (ds : List MemberEndModel) → AreDone (works_of numbers rounds bs at ms) ds → AreUsed at bs (map passed_at (map (λ d. d.state) ds)) (map (λ d. d.ports) ds)
used_by numbers rounds bs at [] [] h = tt
used_by numbers rounds bs at [] (d ∷ ds) h = absurd h
used_by numbers rounds bs at (m ∷ ms) [] h = absurd h
used_by numbers rounds bs at (m ∷ ms) (d ∷ ds) h = (h.0.used bs refl, used_by numbers rounds bs (at + 1) ms ds h.1)

count_of : (numbers : List ℕ) (rounds : ℕ) (bs : List InboxModel) (at : ℕ) (ms : List MemberModel) (ds : List MemberEndModel) → AreDoneUnless (works_of numbers rounds bs at ms) ds → length ds ≡ length ms
count_of numbers rounds bs at [] [] h = refl
count_of numbers rounds bs at [] (d ∷ ds) h = absurd h
count_of numbers rounds bs at (m ∷ ms) [] h = absurd h
count_of numbers rounds bs at (m ∷ ms) (d ∷ ds) h = ap suc (count_of numbers rounds bs (at + 1) ms ds h.1)

module _ (numbers : List ℕ) (rounds : ℕ) (bs : List InboxModel) (ms : List MemberModel) (ls : List LinksModel) (ws : List WorkModel) (ds : List MemberEndModel) (linked : ls ≡ links_of numbers bs 0 ms) (given : ws ≡ linked_works rounds ms ls) (h : AreDoneUnless ws ds) where
  done_unless : AreDoneUnless (works_of numbers rounds bs 0 ms) ds
  done_unless = subst (λ z. AreDoneUnless z ds) (given ∙ ap (linked_works rounds ms) linked ∙ linked_all numbers rounds bs 0 ms) h

  pub all_served : NoneEarly ds → AreServed (map (task_of numbers rounds) ms) (map (λ d. d.state) ds)
  all_served none = served_by numbers rounds bs 0 ms ds (all_done (works_of numbers rounds bs 0 ms) ds done_unless none)

  pub all_used : NoneEarly ds → AreUsed 0 bs (map passed_at (map (λ d. d.state) ds)) (map (λ d. d.ports) ds)
  all_used none = used_by numbers rounds bs 0 ms ds (all_done (works_of numbers rounds bs 0 ms) ds done_unless none)

  pub as_many : length ds ≡ length ms
  as_many = count_of numbers rounds bs 0 ms ds done_unless

-- inboxes of which fewer ports are out than they have ports have a port each
pub have_ports : (ports out : ℕ) (bs : List PortPoolModel) → out < ports → HaveOut ports out bs → HavePorts bs
have_ports ports out [] fewer h = tt
have_ports ports out (b ∷ bs) fewer h = (rw (h.0, h.1) fewer, have_ports ports out bs fewer h.2)

-- one inbox more
pub have_out_last : (ports out : ℕ) (bs : List PortPoolModel) (b : PortPoolModel) → HaveOut ports out bs → b.inbox.ports ≡ ports → b.out ≡ out → HaveOut ports out (bs ++ b ∷ [])
have_out_last ports out [] b h many some_out = (many, some_out, tt)
have_out_last ports out (c ∷ bs) b h many some_out = (h.0, h.1, have_out_last ports out bs b h.2 many some_out)

-- the last inbox of which all ports are out
pub last_out : (ports out : ℕ) (bs whole : List PortPoolModel) (b : PortPoolModel) → whole ≡ bs ++ b ∷ [] → HaveOut ports out whole → HaveOut ports out bs × (b.inbox.ports ≡ ports)
last_out ports out bs whole b is h = parted bs (subst (HaveOut ports out) is h) where
  parted : (bs : List PortPoolModel) → HaveOut ports out (bs ++ b ∷ []) → HaveOut ports out bs × (b.inbox.ports ≡ ports)
  parted [] h = (tt, h.0)
  parted (c ∷ bs) h = let p = parted bs h.2 in ((h.0, h.1, p.0), p.1)
