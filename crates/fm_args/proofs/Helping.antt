-- What there is help for.
use Rattle.std.proofs.Common.{◌≡◌, ◌≢◌, ◌<◌, ◌≤◌, sym, refl, Bool, true, false, List, [], ◌∷◌, length, get_or, map, codes, arith}
use Rattle.std.specs.Prelude.{bytes_eq}
use Rattle.std.proofs.lemmas.Slice.Eq.{bytes_eq-Decides}
use Rattle.fm_args.specs.Invocation.{Text}
use Rattle.fm_args.specs.CommandLine.{is_topic}
use Rattle.fm_args.specs.Parser.{asks_for_help}

differs : (name w : Text) → w ≢ name → bytes_eq name w ≡ false
differs name w other = go (bytes_eq name w) refl
  where
    go : (b : Bool) → bytes_eq name w ≡ b → bytes_eq name w ≡ false
    go false e = e
    go true e = absurd (other (sym ((bytes_eq-Decides name w).0 e)))

pub no_topic : (w : Text) → w ≢ codes "agree" → w ≢ codes "check" → w ≢ codes "fleet" → w ≢ codes "follow" → w ≢ codes "graph" → w ≢ codes "list" → w ≢ codes "pack" → w ≢ codes "records" → w ≢ codes "recover"
    → w ≢ codes "solve" → w ≢ codes "plan" → w ≢ codes "unpack" → w ≢ codes "why" → w ≢ codes "winners" → w ≢ codes "help" → is_topic w ≡ false
no_topic w not_agree not_check not_fleet not_follow not_graph not_list not_pack not_records not_recover not_solve not_plan not_unpack not_why not_winners not_help =
    rw (differs (codes "agree") w not_agree, differs (codes "check") w not_check, differs (codes "fleet") w not_fleet, differs (codes "follow") w not_follow, differs (codes "graph") w not_graph, differs (codes "list") w not_list, differs (codes "pack") w not_pack, differs (codes "records") w not_records, differs (codes "recover") w not_recover, differs (codes "solve") w not_solve, differs (codes "plan") w not_plan, differs (codes "unpack") w not_unpack, differs (codes "why") w not_why, differs (codes "winners") w not_winners, differs (codes "help") w not_help) refl

module _ {A : Type 0} (text : A → Text) where
  pub few_ask_nothing : (words : List A) → length words < 2 → asks_for_help (map text words) ≡ false
  few_ask_nothing [] h = refl
  few_ask_nothing (a ∷ []) h = refl
  few_ask_nothing (a ∷ b ∷ rest) h = absurd (omega arith)

  pub many_ask_nothing : (words : List A) → 4 ≤ length words → asks_for_help (map text words) ≡ false
  many_ask_nothing [] h = refl
  many_ask_nothing (a ∷ []) h = refl
  many_ask_nothing (a ∷ b ∷ []) h = absurd (omega arith)
  many_ask_nothing (a ∷ b ∷ c ∷ []) h = absurd (omega arith)
  many_ask_nothing (a ∷ b ∷ c ∷ d ∷ rest) h = refl

  pub one_topic : (words : List A) (d : A) → length words < 4 → 3 ≤ length words → asks_for_help (map text words) ≡ is_topic (text (get_or words 2 d))
  one_topic [] d below h = absurd (omega arith)
  one_topic (a ∷ []) d below h = absurd (omega arith)
  one_topic (a ∷ b ∷ []) d below h = absurd (omega arith)
  one_topic (a ∷ b ∷ c ∷ []) d below h = refl
  one_topic (a ∷ b ∷ c ∷ e ∷ rest) d below h = absurd (omega arith)
