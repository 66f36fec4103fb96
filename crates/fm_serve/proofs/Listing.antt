-- The members of a fleet, made one after another for the numbers that are listed.
use Rattle.std.proofs.Common.{◌≡◌, ◌<◌, ◌≤◌, ◌+◌, ◌++◌, ◌∷◌, ◌∙◌, ℕ, suc, List, [], length, drop, sym, ap, append_assoc, arith, get_or}
use Rattle.std.proofs.lemmas.List.{append-nil, length-drop, nil_from_length}
use Rattle.std.proofs.Math.Seq.{drop-cons}
use Rattle.fm_script.specs.declared.script.Tell.{Tell}
use Rattle.fm_gossip.specs.Members.{MemberModel, member}
use Rattle.fm_script.specs.Openings.{history_limit}
use Rattle.fm_serve.specs.Musters.{told_at, members_of}

-- before the first
pub no_members : (listed : List ℕ) (tells : List Tell) (ms : List MemberModel) → ms ≡ [] → ms ++ members_of (drop 0 listed) tells ≡ members_of listed tells
no_members listed tells ms none = ap (λ xs. xs ++ members_of listed tells) none

-- with the one for the number at the place
pub next_member : (listed : List ℕ) (tells : List Tell) (at n : ℕ) (before after all : List MemberModel) (m : MemberModel) → at < length listed → n ≡ get_or listed at n → m ≡ member n history_limit (told_at n tells) → after ≡ before ++ m ∷ []
    → before ++ members_of (drop at listed) tells ≡ all → after ++ members_of (drop (at + 1) listed) tells ≡ all
next_member listed tells at n before after all m has is made pushed so_far =
    let rest : drop at listed ≡ n ∷ drop (suc at) listed = drop-cons listed at n has ∙ ap (λ k. k ∷ drop (suc at) listed) (sym is) in
    let one : at + 1 ≡ suc at = omega arith in
    ap (λ k. after ++ members_of (drop k listed) tells) one
    ∙ ap (λ xs. xs ++ members_of (drop (suc at) listed) tells) pushed
    ∙ append_assoc before (m ∷ []) (members_of (drop (suc at) listed) tells)
    ∙ ap (λ x. before ++ x ∷ members_of (drop (suc at) listed) tells) made
    ∙ ap (λ xs. before ++ members_of xs tells) (sym rest)
    ∙ so_far

-- after the last
pub all_members : (listed : List ℕ) (tells : List Tell) (at : ℕ) (ms : List MemberModel) → length listed ≤ at → ms ++ members_of (drop at listed) tells ≡ members_of listed tells → ms ≡ members_of listed tells
all_members listed tells at ms end so_far =
    let none : drop at listed ≡ [] = nil_from_length _ (omega (arith, length-drop at listed)) in
    sym (append-nil ms) ∙ ap (λ xs. ms ++ members_of xs tells) (sym none) ∙ so_far
