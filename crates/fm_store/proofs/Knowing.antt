-- What a coordinator knows by its packets.
use Rattle.std.proofs.Common.{◌≡◌, ℕ, ◌==◌, Bool, true, false, cond, List, [], ◌∷◌, ◌++◌, map, filter, refl, sym, ap, ◌∙◌}
use Rattle.std.proofs.lemmas.List.{append-nil}
use Rattle.std.proofs.lemmas.Bool.{eq-eqb}
use Rattle.fm_records.specs.declared.ops.Op.{Op}
use Rattle.fm_records.specs.Sets.{union, HaveSameMembers}
use Rattle.fm_records.proofs.SetExtensionality.{know_same}
use Rattle.fm_records.specs.Table.{Table}
use Rattle.fm_records.specs.Know.{table_of}
use Rattle.fm_records.specs.Joined.{table_join}
use Rattle.fm_delta.proofs.GroupLaws.{joined_union}
use Rattle.fm_delta.specs.declared.packet.Packet.{Packet}
use Rattle.fm_delta.specs.Deltas.{joined_from, joined_all}
use Rattle.fm_store.specs.Stores.{values_of, recovered}

pub joined_push : (k : Table) (ds : List Table) (d : Table) → joined_from k (ds ++ d ∷ []) ≡ table_join (joined_from k ds) d
joined_push k [] d = refl
joined_push k (e ∷ ds) d = joined_push (table_join k e) ds d

pub joined_more : (ds : List Table) (d : Table) → joined_all (ds ++ d ∷ []) ≡ table_join (joined_all ds) d
joined_more ds d = joined_push (table_of []) ds d

pub same_recovered : (number : ℕ) (ps qs : List Packet) (Ss Ts : List (List Op)) → values_of number ps ≡ map table_of Ss → values_of number qs ≡ map table_of Ts → HaveSameMembers (union Ss) (union Ts)
    → recovered number ps ≡ recovered number qs
same_recovered number ps qs Ss Ts are these same =
    ap joined_all are ∙ joined_union Ss ∙ know_same (union Ss) (union Ts) same ∙ sym (joined_union Ts) ∙ sym (ap joined_all these)

pub of_one : (b : Bool) (p : Packet) → b ≡ true → map (λ (q : Packet). q.value) (cond b (p ∷ []) []) ≡ p.value ∷ []
of_one true p is = refl
of_one false p is = absurd cc

pub compacted : (number : ℕ) (ps : List Packet) (p : Packet) (Ss : List (List Op)) → values_of number ps ≡ map table_of Ss → p.sender ≡ number → p.value ≡ recovered number ps → recovered number (p ∷ []) ≡ recovered number ps
compacted number ps p Ss are sender value =
    let here : values_of number (p ∷ []) ≡ p.value ∷ [] = of_one (p.sender == number) p (eq-eqb p.sender number sender) in
    let table : recovered number ps ≡ table_of (union Ss) = ap joined_all are ∙ joined_union Ss in
    let value_is : p.value ∷ [] ≡ map table_of (union Ss ∷ []) = ap (λ (k : Table). k ∷ []) (value ∙ table) in
    let one : recovered number (p ∷ []) ≡ table_of (union Ss ++ []) = ap joined_all (here ∙ value_is) ∙ joined_union (union Ss ∷ []) in
    one ∙ ap table_of (append-nil (union Ss)) ∙ sym table

one_more_value : (b : Bool) (q : Packet) (xs ys : List Packet) (vs : List Table) → map (λ (x : Packet). x.value) xs ≡ map (λ (x : Packet). x.value) ys ++ vs
    → map (λ (x : Packet). x.value) (cond b (q ∷ xs) xs) ≡ map (λ (x : Packet). x.value) (cond b (q ∷ ys) ys) ++ vs
one_more_value true q xs ys vs is = ap (λ (ks : List Table). q.value ∷ ks) is
one_more_value false q xs ys vs is = is

pub values_append : (number : ℕ) (qs : List Packet) (p : Packet) → values_of number (qs ++ p ∷ []) ≡ values_of number qs ++ values_of number (p ∷ [])
values_append number [] p = refl
values_append number (q ∷ qs) p = one_more_value (q.sender == number) q (filter (λ (x : Packet). x.sender == number) (qs ++ p ∷ [])) (filter (λ (x : Packet). x.sender == number) qs) (values_of number (p ∷ [])) (values_append number qs p)

pub of_none : (b : Bool) (p : Packet) → b ≡ false → map (λ (q : Packet). q.value) (cond b (p ∷ []) []) ≡ []
of_none true p is = absurd cc
of_none false p is = refl

pub knows_in : (number : ℕ) (qs ps : List Packet) (p : Packet) (old new : Table) → old ≡ recovered number qs → ps ≡ qs ++ p ∷ [] → (p.sender == number) ≡ true → new ≡ table_join old p.value → new ≡ recovered number ps
knows_in number qs ps p old new so_far more same joined =
    let values : values_of number ps ≡ values_of number qs ++ p.value ∷ [] = ap (values_of number) more ∙ values_append number qs p ∙ ap (λ (vs : List Table). values_of number qs ++ vs) (of_one (p.sender == number) p same) in
    joined ∙ ap (λ (k : Table). table_join k p.value) so_far ∙ sym (joined_more (values_of number qs) p.value) ∙ sym (ap joined_all values)

pub knows_out : (number : ℕ) (qs ps : List Packet) (p : Packet) (old new : Table) → old ≡ recovered number qs → ps ≡ qs ++ p ∷ [] → (p.sender == number) ≡ false → new ≡ old → new ≡ recovered number ps
knows_out number qs ps p old new so_far more other same =
    let values : values_of number ps ≡ values_of number qs = ap (values_of number) more ∙ values_append number qs p ∙ ap (λ (vs : List Table). values_of number qs ++ vs) (of_none (p.sender == number) p other) ∙ append-nil (values_of number qs) in
    same ∙ so_far ∙ sym (ap joined_all values)
