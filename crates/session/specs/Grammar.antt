-- What the numbers of a session say: the place count, the queue count, and a flavour for each queue (0 FIFO, 1 LIFO); then calls of four numbers:
-- thread, kind, source queue, operand. Unused numbers are 0. All flavours are read before the setup is judged.
use Rattle.std.specs.Prelude.{ℕ, ◌+◌, ◌%◌, ◌^◌, Bool, true, false, not, ◌&&◌, List, [], ◌∷◌, ◌==◌, nat_lt, slice_index, slice_set, Result, Ok, Err}
use Rattle.base.specs.Tests.{pick}
use Rattle.parts.specs.declared.queue.Flavor.{Flavor}
use Rattle.sound.specs.Sound.{most_queues}
use Rattle.parts.specs.Queues.{flavor_of}
use Rattle.kinds.specs.declared.Kind.{Kind}
use Rattle.kinds.specs.declared.UnknownKind.{UnknownKind}
use Rattle.kinds.specs.Kinds.{kind_of, source_b, operand_b, request_of}
use Rattle.session.specs.declared.grammar.Awaiting.{Awaiting}
use Rattle.session.specs.declared.grammar.Awaiting.TheVariants as A
use Rattle.session.specs.declared.grammar.Session.{Session}
use Rattle.session.specs.declared.grammar.Said.{Said}
use Rattle.session.specs.declared.grammar.Said.TheVariants as S
use Rattle.session.specs.declared.grammar.Told.{Told}

-- the flavours as setup takes them
abbrev pub flavors_of : Session → List Flavor
flavors_of s = flavor_of (slice_index s.flavors 0) ∷ flavor_of (slice_index s.flavors 1) ∷ flavor_of (slice_index s.flavors 2) ∷ flavor_of (slice_index s.flavors 3) ∷ []

abbrev pub new_session : Session
new_session = record { awaiting = A.Places; places = 0; flavors = 0 ∷ 0 ∷ 0 ∷ 0 ∷ [] }

-- at a call's beginning: the text may end here
abbrev pub whole_b : Awaiting → Bool
whole_b A.Places = false
whole_b A.Queues = false
whole_b (A.Flavor k n) = false
whole_b A.Thread = true
whole_b (A.Kind t) = false
whole_b (A.Source t kind) = false
whole_b (A.Operand t kind src) = false

abbrev pub to : Session → Awaiting → Said → Told
to s a said = record { session = record { awaiting = a; places = s.places; flavors = s.flavors }; said = said }

abbrev pub wrong : Session → Told
wrong s = record { session = s; said = S.Wrong }

abbrev pub with_places : Session → ℕ → Session
with_places s n = record { awaiting = s.awaiting; places = n; flavors = s.flavors }

-- a flavour past the last that there may be is not kept
abbrev pub with_flavor : Session → ℕ → ℕ → Session
with_flavor s i n = pick (nat_lt i most_queues) (record { awaiting = s.awaiting; places = s.places; flavors = slice_set s.flavors i n }) s

-- of k flavours i are read: another one, or the setup
abbrev pub flavors_read : Session → ℕ → ℕ → Told
flavors_read s k i = pick (nat_lt i k) (to s (A.Flavor k i) S.Nothing) (to s A.Thread (S.Setup k))

abbrev pub kind_heard : Session → ℕ → Result Kind UnknownKind → Told
kind_heard s t (Ok kind) = to s (A.Source t kind) S.Nothing
kind_heard s t (Err e) = wrong s

-- an unused number that is not 0
abbrev pub unused_b : ℕ → Bool → Bool
unused_b n used = not (n == 0) && not used

abbrev pub flavor_heard : Session → ℕ → ℕ → ℕ → Told
flavor_heard s k i n = pick (nat_lt 1 n) (wrong s) (flavors_read (with_flavor s i n) k ((i + 1) % 2 ^ 64))

abbrev pub source_heard : Session → ℕ → Kind → ℕ → Told
source_heard s t kind n = pick (unused_b n (source_b kind)) (wrong s) (to s (A.Operand t kind n) S.Nothing)

abbrev pub operand_heard : Session → ℕ → Kind → ℕ → ℕ → Told
operand_heard s t kind src n = pick (unused_b n (operand_b kind)) (wrong s) (to s A.Thread (S.Call t (request_of t kind src n)))

abbrev pub heard_at : Awaiting → Session → ℕ → Told
heard_at A.Places s n = to (with_places s n) A.Queues S.Nothing
heard_at A.Queues s n = flavors_read s n 0
heard_at (A.Flavor k i) s n = flavor_heard s k i n
heard_at A.Thread s n = to s (A.Kind n) S.Nothing
heard_at (A.Kind t) s n = kind_heard s t (kind_of n)
heard_at (A.Source t kind) s n = source_heard s t kind n
heard_at (A.Operand t kind src) s n = operand_heard s t kind src n

-- one number more
unfoldable pub hear_of : Session → ℕ → Told
hear_of s n = heard_at s.awaiting s n
