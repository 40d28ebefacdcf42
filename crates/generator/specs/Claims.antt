-- What is claimed of the generator (`Draws`): the numbers that rule 12.2 names.
use Rattle.std.specs.Prelude.{◌≡◌}
use Rattle.generator.specs.Xorwow.{draw_number}

pub record Draws : Type 0 where
  pub draw_1 : draw_number 1 ≡ 246875399
  pub draw_2 : draw_number 2 ≡ 3690007200
  pub draw_3 : draw_number 3 ≡ 1264581005
  pub draw_101 : draw_number 101 ≡ 2231749138
