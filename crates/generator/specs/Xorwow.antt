-- Marsaglia's xorwow (rule 12.2), on six words of 32 bits. Offers one draw (`drawn`), the state after some draws
-- (`after`), and the number that each draws (`draw_number`).
use Rattle.std.specs.Prelude.{ℕ, zero, suc, ◌+◌, ◌*◌, ◌/◌, ◌%◌, ◌^◌, bit_xor}
use Rattle.generator.specs.declared.Generator.{Generator}
use Rattle.generator.specs.declared.Drawn.{Drawn}

-- shifts of a word, and the sum of two, without the bits above 32
abbrev pub shifted_right : ℕ → ℕ → ℕ
shifted_right k x = x / 2 ^ k

abbrev pub shifted_left : ℕ → ℕ → ℕ
shifted_left k x = x * 2 ^ k % 2 ^ 32

abbrev pub wrapped_sum : ℕ → ℕ → ℕ
wrapped_sum a b = (a + b) % 2 ^ 32

-- the new v, by t and the old one
abbrev pub mixed : ℕ → ℕ → ℕ
mixed t v = bit_xor (bit_xor v (shifted_left 4 v)) (bit_xor t (shifted_left 1 t))

unfoldable pub drawn : Generator → Drawn
drawn g =
    let t = bit_xor g.x (shifted_right 2 g.x) in
    let v = mixed t g.v in
    let d = wrapped_sum g.d 362437 in
    record { value = wrapped_sum d v; next = record { x = g.y; y = g.z; z = g.w; w = g.v; v = v; d = d } }

-- before the first draw
unfoldable pub start : Generator
start = record { x = 123456789; y = 362436069; z = 521288629; w = 88675123; v = 5783321; d = 6615241 }

abbrev pub after : ℕ → Generator
after zero = start
after (suc k) = (drawn (after k)).next

-- the k-th draw, from 1 on
abbrev pub draw_number : ℕ → ℕ
draw_number zero = 0
draw_number (suc k) = (drawn (after k)).value
