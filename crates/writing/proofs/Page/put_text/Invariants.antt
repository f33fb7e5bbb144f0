-- Before each turn the bytes so far are put.
use Rattle.std.proofs.Common.{◌≡◌, take}
use Rattle.writing.specs.Writing.{put_on}
use Rattle.writing.proofs.Page.put_text.Given as goal

abbrev pub invariant-loop-byte : goal.invariant-loop-byte
invariant-loop-byte l = l.self ≡ put_on l.fn.self (take l.byte-index l.text)
