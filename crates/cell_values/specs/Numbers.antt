-- The range of the numbers.
use Rattle.std.specs.Prelude.{ℤ, pos, negsuc, Bool, int_le, ◌&&◌}

-- the least number
abbrev pub int_min : ℤ
int_min = negsuc 170141183460469231731687303715884105727

-- the greatest number
abbrev pub int_max : ℤ
int_max = pos 170141183460469231731687303715884105727

-- the number lies in the range
abbrev pub fits : ℤ → Bool
fits n = int_le int_min n && int_le n int_max
