-- A word that is one of the three, and one that is none.
use Rattle.std.proofs.Common.{◌≡◌, ℕ, ◌∙◌, ap, ap₂, sym, arith, false, List, ◌∷◌, length, get_or, codes, None}
use Rattle.std.specs.Str.{bytes_eq}
use Rattle.std.proofs.lemmas.Bool.{cond-false}
use Rattle.std.proofs.lemmas.Slice.Eq.{HasBytesAt, bytes_eq-Decides, text_from_reads}
use Rattle.script.specs.Lines.{entry_of}

-- a word with the length and the bytes of p, before the fields of a line
pub with_word : (w p : List ℕ) (pieces fs gs : List (List ℕ)) → pieces ≡ w ∷ fs → fs ≡ gs → length w ≡ length p → HasBytesAt w 0 p → p ∷ gs ≡ pieces
with_word w p pieces fs gs cut same long bytes = sym (cut ∙ ap₂ (λ x xs. x ∷ xs) (text_from_reads w p long bytes) same)

differs : (w p : List ℕ) → (w ≡ p → ⊥) → bytes_eq w p ≡ false
differs w p h = grind (arith, (bytes_eq-Decides w p).0, h)

-- the word has another length than each of the three, or another byte
pub other_word : (w : List ℕ) (fs : List (List ℕ)) → (length w ≡ 5 → get_or w 0 0 ≡ 115 → get_or w 1 0 ≡ 101 → get_or w 2 0 ≡ 97 → get_or w 3 0 ≡ 116 → get_or w 4 0 ≡ 115 → ⊥)
    → (length w ≡ 4 → get_or w 0 0 ≡ 112 → get_or w 1 0 ≡ 97 → get_or w 2 0 ≡ 105 → get_or w 3 0 ≡ 114 → ⊥)
    → (length w ≡ 5 → get_or w 0 0 ≡ 99 → get_or w 1 0 ≡ 111 → get_or w 2 0 ≡ 117 → get_or w 3 0 ≡ 110 → get_or w 4 0 ≡ 116 → ⊥) → entry_of (w ∷ fs) ≡ None
other_word w fs seats pair count =
    let a = differs w (codes "seats") (λ e. seats (ap length e) (ap (λ x. get_or x 0 0) e) (ap (λ x. get_or x 1 0) e) (ap (λ x. get_or x 2 0) e) (ap (λ x. get_or x 3 0) e) (ap (λ x. get_or x 4 0) e)) in
    let b = differs w (codes "pair") (λ e. pair (ap length e) (ap (λ x. get_or x 0 0) e) (ap (λ x. get_or x 1 0) e) (ap (λ x. get_or x 2 0) e) (ap (λ x. get_or x 3 0) e)) in
    let d = differs w (codes "count") (λ e. count (ap length e) (ap (λ x. get_or x 0 0) e) (ap (λ x. get_or x 1 0) e) (ap (λ x. get_or x 2 0) e) (ap (λ x. get_or x 3 0) e) (ap (λ x. get_or x 4 0) e)) in
    cond-false _ _ _ a ∙ (cond-false _ _ _ b ∙ cond-false _ _ _ d)
