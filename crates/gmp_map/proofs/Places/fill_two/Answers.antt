-- `gmp_map::Places::fill_two` meets its contract: the law `groups_pair`. Assumes nothing.
use lib.ListN.{length}
use Rattle.gmp_map.proofs.Filling.{groups_pair}
use Rattle.gmp_map.proofs.Places.fill_two.Goals as goal

pub returns : goal.returns
returns c = let a = c.args in
    groups_pair a.self.c a.self.f a.self.n a.window.now a.p (length a.out.now) c.group_piece-first.ensures c.group_piece-second.ensures c.requires.2
    c.fill_pair.ensures
