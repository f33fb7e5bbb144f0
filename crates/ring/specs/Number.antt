-- Ring numbers count up.
use Rattle.std.specs.Prelude.{◌+◌, ◌%◌, ◌^◌}
use Rattle.ring.specs.declared.RingNumber.{RingNumber}

abbrev pub next_number : RingNumber → RingNumber
next_number n = record { 0 = (n.0 + 1) % 2 ^ 64 }
