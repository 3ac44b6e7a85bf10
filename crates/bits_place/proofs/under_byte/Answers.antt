-- `bits_place::under_byte` meets its contract. Assumes nothing.
use mathlib.Core.Path.{◌∙◌}
use Rattle.bits_place.proofs.Masking.{byte_under}
use Rattle.bits_place.proofs.under_byte.Goals as goal

pub front-requires : goal.front-requires
front-requires c = c.places_before-2.ensures.few

pub front-requires-2 : goal.front-requires-2
front-requires-2 c = c.places_before.ensures.few

pub returns : goal.returns
returns c = let a = c.args in
    c.front-2.ensures
    ∙ byte_under a.a a.z a.p a.x a.old c.places_before.result c.places_before-2.result c.front.result
    c.places_before.ensures c.places_before-2.ensures c.front.ensures
