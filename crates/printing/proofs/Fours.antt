-- Two numbers, or four, each below a bound (`two_small`, `four_small`).
use mathlib.Core.List.{[], ◌∷◌}
use Prim.Native.Nat.{ℕ, zero, suc, ◌<◌}
use lib.ListN.{get_or}
use native.Mathlib.Omega.{arith}

pub two_small : (c a b : ℕ) → a < c → b < c → (k : ℕ) → get_or (a ∷ b ∷ []) k 0 < c
two_small c a b ha hb zero = ha
two_small c a b ha hb (suc zero) = hb
two_small c a b ha hb (suc (suc k)) = omega arith

pub four_small : (c a b d e : ℕ) → a < c → b < c → d < c → e < c → (k : ℕ) → get_or (a ∷ b ∷ d ∷ e ∷ []) k 0 < c
four_small c a b d e ha hb hd he zero = ha
four_small c a b d e ha hb hd he (suc zero) = hb
four_small c a b d e ha hb hd he (suc (suc zero)) = hd
four_small c a b d e ha hb hd he (suc (suc (suc zero))) = he
four_small c a b d e ha hb hd he (suc (suc (suc (suc k)))) = omega arith
