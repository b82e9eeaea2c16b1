-- A table follows a rule: one test that is computed over the whole table, and what it tells of each entry.
use Rattle.std.proofs.Common.{◌≡◌, ℕ, zero, suc, ◌<◌, Bool, true, ◌&&◌, eqb, List, [], ◌∷◌, length, get_or, arith}
use Rattle.std.proofs.lemmas.Bool.{and_parts, eqb-true}

abbrev pub follows : (ℕ → ℕ) → List ℕ → Bool
follows f [] = true
follows f (x ∷ xs) = eqb x (f 0) && follows (λ k. f (suc k)) xs

pub entry : (f : ℕ → ℕ) (xs : List ℕ) → follows f xs ≡ true → (k : ℕ) → k < length xs → get_or xs k 0 ≡ f k
entry f [] t k h = absurd (omega arith)
entry f (x ∷ xs) t zero h = eqb-true x (f 0) (and_parts (eqb x (f 0)) (follows (λ k. f (suc k)) xs) t).0
entry f (x ∷ xs) t (suc k) h = entry (λ k. f (suc k)) xs (and_parts (eqb x (f 0)) (follows (λ k. f (suc k)) xs) t).1 k (omega arith)
