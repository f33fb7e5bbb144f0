-- Before each turn, reading the rest of the part with the reader so far is what reading all of it was.
use Rattle.std.proofs.Common.{◌≡◌, drop}
use Rattle.reading.specs.Reading.{read_from}
use Rattle.reading.proofs.Reader.next.Given as goal

abbrev pub invariant-loop-i : goal.invariant-loop-i
invariant-loop-i l = read_from l.reader (drop l.i l.part) l.i ≡ read_from l.fn.self l.part 0
