-- The machine of zeros, which a refused setup gives, is not sound.
use Rattle.std.proofs.Common.{◌≡◌, false, refl}
use Rattle.machine.specs.Setup.{zero_machine}
use Rattle.machine.specs.Sound.{sound_b}

pub zero_unsound : sound_b zero_machine ≡ false
unfolding sound_b
zero_unsound = refl
