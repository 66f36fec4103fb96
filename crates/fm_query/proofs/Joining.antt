-- Texts that are appended in turn.
use Rattle.std.proofs.Common.{◌≡◌, ◌∙◌, ◌++◌, ap, ℕ, List, append_assoc}

-- Six.
pub joined : (a s m o r t b c d e f g : List ℕ) → b ≡ a → c ≡ b ++ s → d ≡ c ++ m → e ≡ d ++ o → f ≡ e ++ r → g ≡ f ++ t → g ≡ a ++ (s ++ (m ++ (o ++ (r ++ t))))
joined a s m o r t b c d e f g ab bc cd de ef fg =
    fg ∙ ap (λ x. x ++ t) ef ∙ append_assoc e r t
    ∙ ap (λ x. x ++ (r ++ t)) de ∙ append_assoc d o (r ++ t)
    ∙ ap (λ x. x ++ (o ++ (r ++ t))) cd ∙ append_assoc c m (o ++ (r ++ t))
    ∙ ap (λ x. x ++ (m ++ (o ++ (r ++ t)))) bc ∙ append_assoc b s (m ++ (o ++ (r ++ t)))
    ∙ ap (λ x. x ++ (s ++ (m ++ (o ++ (r ++ t))))) ab

-- Three.
pub three : (o a b c x y : List ℕ) → x ≡ o ++ a → y ≡ x ++ b → y ++ c ≡ o ++ (a ++ (b ++ c))
three o a b c x y ox xy = ap (λ w. w ++ c) xy ∙ append_assoc x b c ∙ ap (λ w. w ++ (b ++ c)) ox ∙ append_assoc o a (b ++ c)

-- Four, of which the second has two parts.
pub four : (o c m i p e x y z : List ℕ) → x ≡ o ++ c → y ≡ x ++ (m ++ i) → z ≡ y ++ p → z ++ e ≡ o ++ (c ++ (m ++ (i ++ (p ++ e))))
four o c m i p e x y z ox xy yz =
    ap (λ w. w ++ e) yz ∙ append_assoc y p e
    ∙ ap (λ w. w ++ (p ++ e)) xy ∙ append_assoc x (m ++ i) (p ++ e)
    ∙ ap (λ w. w ++ ((m ++ i) ++ (p ++ e))) ox ∙ append_assoc o c ((m ++ i) ++ (p ++ e))
    ∙ ap (λ w. o ++ (c ++ w)) (append_assoc m i (p ++ e))
