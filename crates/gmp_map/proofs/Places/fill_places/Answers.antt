-- `gmp_map::Places::fill_places` meets its contract: the law `window_pair`. Assumes nothing.
use Rattle.std.proofs.Common.{arith}
use Rattle.gmp_map.proofs.Pairs.{placed_if}
use Rattle.gmp_map.proofs.Filling.{window_pair}
use Rattle.gmp_map.proofs.Places.fill_places.Goals as goal

pub fill_pair-requires : goal.fill_pair-requires
fill_pair-requires c = (
  placed_if _ _ c.then_some-first.ensures (omega (arith, c.data_in-x.ensures.few)),
  placed_if _ _ c.then_some-second.ensures (omega (arith, c.data_in-y.ensures.few)),
  omega (arith, c.requires.1),
)

pub returns : goal.returns
returns c = let a = c.args in
    window_pair a.self.c a.self.f a.self.n a.groups.now a.p a.self.window c.requires.0 c.data_in-x.ensures.is c.data_in-y.ensures.is
    c.data_in-z.ensures.is c.requires.1 c.then_some-first.ensures c.then_some-second.ensures c.fill_pair.ensures
