-- What is claimed of whole sessions: over the machine's own calls, and over the words that firmware keeps.
use Rattle.std.proofs.Common.{◌≡◌, ℕ, suc, ◌+◌, ◌^◌, ◌<◌, ◌≤◌, true, ◌⊎◌, List, [], ◌∷◌, length, pos}
use Rattle.index.specs.declared.Index.{Index}
use Rattle.index.specs.Index.{difference_of, length_of}
use Rattle.ring.specs.declared.Ring.{Ring}
use Rattle.parts.specs.declared.queue.Flavor.{Flavor}
use Rattle.parts.specs.declared.stage.LengthStage.TheVariants.{LoadFront}
use Rattle.parts.specs.declared.stage.Stage.TheVariants.{Length}
use Rattle.parts.specs.declared.answer.Answer.{Answer}
use Rattle.parts.specs.declared.answer.Answer.TheVariants as A
use Rattle.keeps.specs.declared.Kept.TheVariants.{Built, Held}
use Rattle.keeps.specs.Kept.{kept_of}
use Rattle.gate.specs.declared.Operation.{Operation}
use Rattle.machine.specs.declared.state.Machine.{Machine}
use Rattle.machine.specs.State.{queue_at, stage_at}
use Rattle.machine.specs.Sound.{sound_b}
use Rattle.machine.specs.Setup.{zero_machine, setup_of}
use Rattle.machine.specs.Begin.{begin_of}
use Rattle.words.specs.Slices.{machine_b}
use Rattle.theorem.specs.History as H
use Rattle.theorem.specs.History.{Call, Lends, Session, session, accepted, answered, standing, AtRest, AllAllowed, AllUnsound}
use Rattle.theorem.specs.GaveUp.{GivesUp, Leaves, Untouched}
use Rattle.theorem.proofs.Theorem as T
use Rattle.theorem.proofs.Named as N
use Rattle.theorem.proofs.Named.{LiveRing}
use Rattle.theorem.proofs.GaveUp as G
use Rattle.link.specs.Map.{ix}
use Rattle.export.specs.Words.{machine_in}
use Rattle.export.specs.Exported.{setup_words, SetupTold}
use Rattle.firmware.specs.Rows.{Entry, Row, words_at, pool_at, calls_in, accepted_in, answered_in}
use Rattle.firmware.proofs.Rows as R

-- any setup, and fewer than 2^62 calls, none of which is lent another list of the pool's length
module _ (k : ℕ) (flavors : List Flavor) (n : ℕ) (cells : List ℕ) (calls : List Call) (few : length calls < 2 ^ 62) (lends : Lends n calls) where
  abbrev s : Session
  s = session k flavors n cells calls

  abbrev m : Machine
  m = s.machine

  pub conserved : (j : ℕ) → (answered s.history j ≤ accepted s.history j)
      × (AtRest m → accepted s.history j ≡ answered s.history j + standing m s.cells j)
  conserved = T.conserved k flavors n cells calls few lends

  -- a setup is refused, or answers Done
  abbrev Reached : Answer → Type 0
  Reached A.Working = ⊥
  Reached A.Done = (sound_b m ≡ true) × AllAllowed s.history
  Reached (A.Job v) = ⊥
  Reached A.Nothing = ⊥
  Reached (A.Stolen a) = ⊥
  Reached A.Moved = ⊥
  Reached (A.Length d i) = ⊥
  Reached (A.GaveUp e) = ⊥
  Reached (A.Refused r) = (m ≡ zero_machine) × (s.cells ≡ cells) × AllUnsound s.history

  pub reached_sound : Reached (setup_of k flavors n cells).called.answer
  reached_sound = go (setup_of k flavors n cells).called.answer (T.reached_sound k flavors n cells calls few lends)
    where
      go : (a : Answer) → H.Reached a cells s → Reached a
      go A.Working h = h
      go A.Done h = h
      go (A.Job v) h = h
      go A.Nothing h = h
      go (A.Stolen a) h = h
      go A.Moved h = h
      go (A.Length d i) h = h
      go (A.GaveUp e) h = h
      go (A.Refused r) h = h

  pub gave_up_untouched : (t : ℕ) (o : Operation) (cs : List Call) → suc (length calls) + length cs < 2 ^ 62 → Lends n cs
      → (begin_of m s.cells t o).called.answer ≡ A.Working
      → GivesUp t (begin_of m s.cells t o).called.machine (begin_of m s.cells t o).cells cs
      → Leaves m s.cells (begin_of m s.cells t o)
      × Untouched t (begin_of m s.cells t o).called.machine (begin_of m s.cells t o).cells cs
  gave_up_untouched = G.gave_up_untouched k flavors n cells calls few lends

  module _ (set_up : (setup_of k flavors n cells).called.answer ≡ A.Done) where
    pub index_bound : (q : ℕ) → q < m.queue_count
        → (f : ℕ) × (e : ℕ) × ((queue_at m q).front ≡ ix f) × ((queue_at m q).back ≡ ix e) × (f ≤ suc (length calls)) × (e ≤ length calls)
    index_bound = let b = T.reached_done k flavors n cells calls few lends set_up in N.index_bound k _ b.0 (length calls) m s.cells b.1

    pub places_apart : (a r : Ring) → LiveRing m a → LiveRing m r → a.place.0 ≡ r.place.0 → a ≡ r
    places_apart = let b = T.reached_done k flavors n cells calls few lends set_up in N.places_apart k _ b.0 (length calls) m s.cells b.1

    pub numbers_apart : (a r : Ring) → LiveRing m a → LiveRing m r → a.number.0 ≡ r.number.0 → a ≡ r
    numbers_apart = let b = T.reached_done k flavors n cells calls few lends set_up in N.numbers_apart k _ b.0 (length calls) m s.cells b.1

    pub next_above : (a : Ring) → LiveRing m a → a.number.0 < m.next_ring.0
    next_above = let b = T.reached_done k flavors n cells calls few lends set_up in N.next_above k _ b.0 (length calls) m s.cells b.1

    pub keeps_one : (t : ℕ) (a r : Ring) → (kept_of (stage_at m t) ≡ Built a) ⊎ (kept_of (stage_at m t) ≡ Held a)
        → (kept_of (stage_at m t) ≡ Built r) ⊎ (kept_of (stage_at m t) ≡ Held r) → a ≡ r
    keeps_one = let b = T.reached_done k flavors n cells calls few lends set_up in N.keeps_one k _ b.0 (length calls) m s.cells b.1

    pub own_length : (t : ℕ) (i : Index) → t < m.queue_count → stage_at m t ≡ Length t (LoadFront i)
        → (i ≡ (queue_at m t).back) × (difference_of i (queue_at m t).front ≡ pos (length_of i (queue_at m t).front))
        × (length_of i (queue_at m t).front ≤ (queue_at m t).ring.capacity)
    own_length = let b = T.reached_done k flavors n cells calls few lends set_up in N.own_length k _ b.0 (length calls) m s.cells b.1 few

-- a setup of 91 words, and a row of fewer than 2^62 calls on what it left
module _ (w cells : List ℕ) (k bits n : ℕ) (size : length w ≡ 91) (first answer : List ℕ) (is_set_up : (first, answer) ≡ setup_words w cells k bits n)
    (told : SetupTold w cells k bits n first) (es : List Entry) (row : Row first cells es) (few : length es < 2 ^ 62) (lends : Lends n (calls_in es)) where
  pub conserved_in_words : (j : ℕ) → (answered_in es j ≤ accepted_in (λ t. 0) es j)
      × (AtRest (machine_in (words_at first es)) → accepted_in (λ t. 0) es j ≡ answered_in es j + standing (machine_in (words_at first es)) (pool_at cells es) j)
  conserved_in_words = R.conserved_in_words w cells k bits n size first answer is_set_up told es row few lends

  pub sound_in_words : (machine_b (words_at first es) ≡ true) × (answer ≡ 1 ∷ 0 ∷ 0 ∷ 0 ∷ [] → sound_b (machine_in (words_at first es)) ≡ true)
  sound_in_words = R.sound_in_words w cells k bits n size first answer is_set_up told es row few lends
