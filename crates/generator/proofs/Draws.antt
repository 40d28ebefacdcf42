-- All that is claimed of the generator, by computing.
use Rattle.std.proofs.Common.{refl}
use Rattle.generator.specs.Xorwow.{drawn, start}
use Rattle.generator.specs.Claims.{Draws}

pub draws_all : Draws
unfolding drawn start
draws_all = record { draw_1 = refl; draw_2 = refl; draw_3 = refl; draw_101 = refl }
