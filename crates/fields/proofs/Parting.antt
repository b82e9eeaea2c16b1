-- How a text is cut at a byte.
use Rattle.std.proofs.Common.{◌≡◌, ℕ, suc, ◌+◌, ◌<◌, ◌≤◌, Bool, true, false, cond, not, eqb, List, [], ◌∷◌, length, take, drop, Some, None, Option, MatchOption, refl, sym, ap, arith, length-drop}
use Rattle.std.specs.List.{onto_first, position_or_len}
use Rattle.std.proofs.lemmas.Bool.{false_from_ne_true}
use Rattle.std.proofs.lemmas.List.Sums.{position_or_len_is}
use Rattle.std.proofs.lemmas.List.Splits.{slice_split_first, length-slice_split}
use Rattle.memchr.specs.Find.{IsFirstByte, is_byte}
use Rattle.fields.specs.Fields.{split, Cut}

-- where there is no stop, the text is the one piece
split_whole : (stop : ℕ) (bs : List ℕ) → length bs ≤ position_or_len (λ b. eqb b stop) bs → split stop bs ≡ bs ∷ []
split_whole stop [] h = refl
split_whole stop (b ∷ bs) h = by (eqb b stop) h (split_whole stop bs)
  where
    by : (t : Bool) → suc (length bs) ≤ cond (not t) (1 + position_or_len (λ x. eqb x stop) bs) 0 → (length bs ≤ position_or_len (λ x. eqb x stop) bs → split stop bs ≡ bs ∷ []) → cond t ([] ∷ split stop bs) (onto_first b (split stop bs)) ≡ (b ∷ bs) ∷ []
    by true h ih = absurd (omega arith)
    by false h ih = ap (onto_first b) (ih (omega arith))

-- the piece before the first stop, and the pieces of what follows it
split_cut : (stop : ℕ) (bs : List ℕ) (n : ℕ) → n ≡ position_or_len (λ b. eqb b stop) bs → n < length bs → (n < length bs) × Cut stop bs (take n bs) (drop (n + 1) bs)
split_cut stop bs n e h =
    let first = slice_split_first (λ b. eqb b stop) bs 0 (omega arith) in
    let pieces : split stop bs ≡ take n bs ∷ split stop (drop (n + 1) bs) = rw e first in (
      h,
      record {
        pieces = pieces;
        more = omega (arith, ap length pieces, length-slice_split (λ b. eqb b stop) (drop (n + 1) bs));
        shorter = omega (arith, length-drop (n + 1) bs);
      },
    )

-- where the first stop is found, and where none is
pub parted : (stop : ℕ) (bs : List ℕ) (r : Option ℕ) → IsFirstByte (is_byte stop) bs r → MatchOption r (split stop bs ≡ bs ∷ []) (λ n. (n < length bs) × Cut stop bs (take n bs) (drop (n + 1) bs))
parted stop bs None none =
    let at = position_or_len_is (λ b. eqb b stop) bs (length bs) 0 (omega arith) (λ k l. false_from_ne_true _ (none k (omega arith) l)) (λ l. absurd (omega (arith, l))) in
    split_whole stop bs (omega (arith, at))
parted stop bs (Some n) found =
    let at = position_or_len_is (λ b. eqb b stop) bs n 0 (omega (arith, found.0.high)) (λ k l. false_from_ne_true _ (found.0.before k (omega arith) l)) (λ _. found.1) in
    split_cut stop bs n (sym at) found.0.high
