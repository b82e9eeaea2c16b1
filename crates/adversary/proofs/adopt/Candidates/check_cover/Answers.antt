use Rattle.std.proofs.Common.{sym}
use Rattle.adversary.proofs.Blame.{places}
use Rattle.adversary.proofs.adopt.Candidates.check_cover.Goals as goal

pub place_of-requires : goal.place_of-requires
place_of-requires c = (places _ _ (c.in-Some.i, c.in-Some.j, c.in-Some.k) (sym c.in-Some.ensures) c.args.self.now.short).0

pub place_of-requires-in-Some : goal.place_of-requires-in-Some
place_of-requires-in-Some c = (places _ _ (c.in-Some.i, c.in-Some.j, c.in-Some.k) (sym c.in-Some.ensures) c.args.self.now.short).1

pub place_of-requires-in-Some-2 : goal.place_of-requires-in-Some-2
place_of-requires-in-Some-2 c = (places _ _ (c.in-Some.i, c.in-Some.j, c.in-Some.k) (sym c.in-Some.ensures) c.args.self.now.short).2
