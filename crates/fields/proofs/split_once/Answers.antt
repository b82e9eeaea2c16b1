use Rattle.std.proofs.Common.{◌≡◌, ◌+◌, ◌<◌, [], ◌∷◌, length, take, drop, MatchOption}
use Rattle.std.proofs.lemmas.List.{take_rest}
use Rattle.std.proofs.lemmas.Option.{MatchOption-at_none, MatchOption-at_some}
use Rattle.fields.specs.Fields.{split, Cut}
use Rattle.fields.proofs.Parting.{parted}
use Rattle.fields.proofs.split_once.Goals.{After-memchr}
use Rattle.fields.proofs.split_once.Goals as goal

-- what was found of the first stop
found : (c : After-memchr) → MatchOption c.memchr.result (split c.args.stop c.args.text.now ≡ c.args.text.now ∷ []) (λ n. (n < length c.args.text.now) × Cut c.args.stop c.args.text.now (take n c.args.text.now) (drop (n + 1) c.args.text.now))
found c = parted c.args.stop c.args.text.now c.memchr.result c.memchr.ensures

pub returns-in_err-n : goal.returns-in_err-n
returns-in_err-n c = rw c.from_residual.ensures (MatchOption-at_none _ _ c.in_err-n.was (found (goal.at.returns-in_err-n c).After-memchr))

pub returns : goal.returns
returns c = simp take_rest (MatchOption-at_some _ _ c.in_ok-n.n c.in_ok-n.was (found (goal.at.returns c).After-memchr)).1
