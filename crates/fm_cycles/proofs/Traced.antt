-- The walks back from each node in turn, and the cycles that they closed so far.
use Rattle.std.proofs.Common.{◌≡◌, ◌∙◌, ap, sym, subst, refl, inl, inr, ℕ, zero, suc, ◌+◌, ◌≤◌, ◌<◌, List, [], ◌∷◌, ◌++◌, Option, Some, None, length, length-append, get_or, drop, arith}
use lib.ListN.{replicate, take}
use Rattle.std.proofs.Math.Seq.{take-append_seam}
use Rattle.std.proofs.lemmas.Bool.{cases_lt}
use Rattle.std.proofs.lemmas.List.{length-replicate}
use Rattle.std.proofs.lemmas.List.Elements.{All-nil, All-cons, All-append}
use Rattle.std.specs.declared.vec.Vec.{Vec}
use Rattle.std.specs.declared.alloc.Global.{Global}
use Rattle.fm_cycles.specs.Walks.{Steps, IsNegativeCycle}
use Rattle.fm_cycles.specs.inner.ParentGraph.{value_count, visit_of, IsVisited, AreBefore, AreRooted, IsWalkedBack, AreCyclesOf}
use Rattle.fm_cycles.specs.Found.{AreNegative}
use Rattle.fm_cycles.specs.declared.indexed_arcs.ResidualArc.{ResidualArc}
use Rattle.fm_cycles.specs.declared.parent_graph.Visit.{Visit}
use Rattle.fm_cycles.proofs.Counts.{marked_most}
use Rattle.fm_cycles.proofs.Walked.{more_few}

abbrev pub no_visit : Option Visit
no_visit = None

none_at : (o : Option Visit) → o ≡ None → (n v : ℕ) → get_or (replicate n o) v None ≡ None
none_at o is zero v = refl
none_at o is (suc n) zero = is
none_at o is (suc n) (suc v) = none_at o is n v

-- visits that were written into a vector of as many
pub written : (n : ℕ) (old new : List (Option Visit)) → length new ≡ length old → n ≡ length old → take n (new ++ drop (length new) old) ≡ new
written n old new same is = ap (λ m. take m (new ++ drop (length new) old)) (is ∙ sym same) ∙ take-append_seam new (drop (length new) old)

module _ (g : Steps ResidualArc) (parents : ℕ → Option ResidualArc) (nodes : ℕ) where
  pub record SoFar (start : ℕ) (visits : List (Option Visit)) (cycles : List (Vec ResidualArc Global)) : Type 0 where
    pub sized : length visits ≡ nodes
    pub before : AreBefore start visits
    pub visited : (v : ℕ) → v < start → IsVisited visits v
    pub negative : AreNegative g cycles
    pub rooted : cycles ≡ [] → AreRooted g parents visits

  pub begin : (visits : List (Option Visit)) (cycles : List (Vec ResidualArc Global)) → visits ≡ replicate nodes no_visit → cycles ≡ [] → SoFar 0 visits cycles
  begin visits cycles fresh none =
      let all : (v : ℕ) → visit_of visits v ≡ None = λ v. ap (λ (xs : List (Option Visit)). visit_of xs v) fresh ∙ none_at no_visit refl nodes v in
      record {
        sized = ap (λ (xs : List (Option Visit)). length xs) fresh ∙ length-replicate nodes no_visit;
        before = λ v x there. absurd (let e = all v in let no : ⊥ = cc in no);
        visited = λ v less. absurd (omega arith);
        negative = subst (λ (cs : List (Vec ResidualArc Global)). AreNegative g cs) (sym none) (All-nil (λ (cycle : Vec ResidualArc Global). IsNegativeCycle g cycle.items));
        rooted = λ _ v there. absurd (there (all v));
      }

  module _ (start : ℕ) (visits new : List (Option Visit)) (cycles : List (Vec ResidualArc Global)) (walk : List ResidualArc) (so_far : SoFar start visits cycles) where
    earlier : (found : Option ℕ) → IsWalkedBack g parents start visits new walk found → (v : ℕ) → v < start + 1 → IsVisited new v
    earlier found back v less = elim (cases_lt v start) [
      | inl below ↦ back.kept v (so_far.visited v below)
      | inr at ↦ let is : start ≡ v = omega arith in subst (λ n. IsVisited new n) is back.started
    ]

    pub no_cycle : IsWalkedBack g parents start visits new walk None → SoFar (start + 1) new cycles
    no_cycle back = record {
      sized = back.sized ∙ so_far.sized;
      before = back.before;
      visited = earlier None back;
      negative = so_far.negative;
      rooted = λ none. back.rooted refl (so_far.rooted none);
    }

    pub one_cycle : (first : ℕ) → IsWalkedBack g parents start visits new walk (Some first) → (cycle : Vec ResidualArc Global) → cycle.items ≡ drop first walk → (more : List (Vec ResidualArc Global)) → more ≡ cycles ++ cycle ∷ [] → SoFar (start + 1) new more
    one_cycle first back cycle is more pushed = record {
      sized = back.sized ∙ so_far.sized;
      before = back.before;
      visited = earlier (Some first) back;
      negative = subst (λ (cs : List (Vec ResidualArc Global)). AreNegative g cs) (sym pushed)
          (All-append (λ (c : Vec ResidualArc Global). IsNegativeCycle g c.items) cycles (cycle ∷ []) so_far.negative
          (All-cons (λ (c : Vec ResidualArc Global). IsNegativeCycle g c.items) cycle [] (subst (λ p. IsNegativeCycle g p) (sym is) back.closed) (All-nil (λ (c : Vec ResidualArc Global). IsNegativeCycle g c.items))));
      rooted = λ none.
          let some = length-append cycles (cycle ∷ []) in
          let is_more = ap (λ (cs : List (Vec ResidualArc Global)). length cs) pushed in
          let no = ap (λ (cs : List (Vec ResidualArc Global)). length cs) none in
          absurd (omega arith);
    }

  pub all : (start : ℕ) (visits : List (Option Visit)) (cycles : List (Vec ResidualArc Global)) → nodes ≤ start → SoFar start visits cycles → AreCyclesOf g parents nodes cycles
  all start visits cycles end so_far = record {
    negative = so_far.negative;
    rooted = λ none v less. more_few g parents (value_count visits) nodes v (let most = marked_most visits in let e = so_far.sized in omega arith) (so_far.rooted none v (so_far.visited v (omega arith)));
  }
