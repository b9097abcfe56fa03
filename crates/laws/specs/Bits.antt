-- Parts of a number by its bits.
use Rattle.std.specs.Prelude.{ℕ, ◌+◌, ◌*◌, ◌-◌, ◌/◌, ◌%◌, ◌^◌}

-- bits h:l of x, as the papers write them
abbrev pub bits : ℕ → ℕ → ℕ → ℕ
bits h l x = x / 2 ^ l % 2 ^ (h - l + 1)

-- x with its k lowest bits zero
abbrev pub down : ℕ → ℕ → ℕ
down k x = x / 2 ^ k * 2 ^ k
