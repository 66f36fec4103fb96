-- Texts of one line and of two, by the definitions.
use Rattle.std.proofs.Common.{◌≡◌, ℕ, List, [], ◌∷◌, ◌++◌, length, refl, sym, ap, inl, inr, arith}
use Rattle.std.specs.Prelude.{codes}
use Rattle.std.specs.Fmt.{digits}
use Rattle.std.proofs.lemmas.List.{length-append}
use Rattle.fm_net.specs.declared.node.Node.TheVariants.{Sink}
use Rattle.fm_net.specs.Net.{sink_alone}
use Rattle.fm_dimacs.specs.Text.{dump_text, node_line, problem_line}
use Rattle.fm_dimacs.specs.Syntax.{LineState, Comments, Body, Allows, Reaches, IsMalformedAt, BreaksAt}
use Rattle.fm_dimacs.proofs.Leading.{line_some}

first_line : node_line 1 Sink ≡ codes "c 1 S\n"
unfolding digits
first_line = refl

second_line : problem_line 1 0 ≡ codes "p min 1 0\n"
unfolding digits
second_line = refl

-- the network of the sink alone has this text
sink_text : dump_text sink_alone ≡ codes "c 1 S\np min 1 0\n"
unfolding digits
sink_text = refl

-- each line of it may stand where it does, and then the text ends
sink_lines : Reaches 2 (Comments []) (codes "c 1 S\np min 1 0\n") (Body (Sink ∷ []) [] [] 0) []
sink_lines = (
  codes "c 1 S\n",
  Comments (Sink ∷ []),
  codes "p min 1 0\n",
  refl,
  inl (Sink, refl, sym first_line, refl),
  (codes "p min 1 0\n", Body (Sink ∷ []) [] [] 0, [], refl, inr (0, omega arith, omega arith, sym second_line, refl), (refl, refl)),
)

nothing_stands : (p : LineState) → (line behind : List ℕ) (next : LineState) → [] ≡ line ++ behind → Allows p line next → length line ≡ 0
nothing_stands p line behind next e h = omega (arith, ap length e, length-append line behind)

nothing_after : (nodes : List _) → IsMalformedAt (Comments nodes) []
nothing_after nodes = record {
  no_line = λ line behind next e h. let none = nothing_stands (Comments nodes) line behind next e h in let some = line_some (Comments nodes) next line tt h in omega arith;
  no_end = λ h. h;
}

-- of the empty text the first line is missing, and of a text of one comment the second
nothing_broken : BreaksAt [] 1
nothing_broken = record { good = 0; place = Comments []; rest = []; number = refl; before = (refl, refl); stuck = nothing_after [] }

comment_broken : BreaksAt (codes "c 1 S\n") 2
comment_broken = record {
  good = 1;
  place = Comments (Sink ∷ []);
  rest = [];
  number = refl;
  before = (codes "c 1 S\n", Comments (Sink ∷ []), [], refl, inl (Sink, refl, sym first_line, refl), (refl, refl));
  stuck = nothing_after (Sink ∷ []);
}
