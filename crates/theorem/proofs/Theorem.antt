-- The two statements of demand 3, over the very definitions that the contracts of `Machine::setup`, `begin` and `step` cite: `setup_of`, `begin_of`
-- and `step_of`. They rest on these and on specs/History alone: `session` (a setup, then `run` by `called_of`), `Lends`, `accepted` and `answered`
-- (from the history), `standing` (from machine and pool), `AtRest`, `Reached`; and on the machine's own `sound_b`.
-- k queues, n places, whatever they are, so that the setup may be refused; the pool's cells are any.
use Rattle.std.proofs.Common.{◌≡◌, ℕ, ◌+◌, ◌^◌, ◌<◌, ◌≤◌, List, length, sym, refl, ap, ◌∙◌, subst, arith}
use Rattle.parts.specs.declared.queue.Flavor.{Flavor}
use Rattle.parts.specs.declared.answer.Answer.{Answer}
use Rattle.parts.specs.declared.answer.Answer.TheVariants as B
use Rattle.parts.specs.declared.answer.Refusal.{Refusal}
use Rattle.machine.specs.declared.state.Machine.{Machine}
use Rattle.machine.specs.State.{After, refused}
use Rattle.machine.specs.Setup.{zero_machine, fresh_machine, setup_of}
use Rattle.model.specs.Stage.{Flavour}
use Rattle.link.specs.Linked.{Behind}
use Rattle.link.proofs.SetupLaws.{flavours, fresh_behind, fresh_total}
use Rattle.theorem.specs.History.{accepted, answered, Call, Lends, Session, run, session, standing, AtRest, Reached}
use Rattle.theorem.proofs.OneCall.{call_sound}
use Rattle.theorem.proofs.Runs.{Ran, run_goes, Started, SetUp, set_up, turned_away, setting_up, standing_is}
use Rattle.theorem.proofs.Refused.{AsItWas, zero_run, zero_stands}

module _ (k : ℕ) (flavors : List Flavor) (n : ℕ) (cells : List ℕ) (calls : List Call) (few : length calls < 2 ^ 62) (lends : Lends n calls) where
  abbrev s : Session
  s = session k flavors n cells calls

  abbrev fl : ℕ → Flavour
  fl = flavours flavors

  abbrev last : Session
  last = run (fresh_machine k flavors n) cells calls

  -- ---- after a setup that answered Done

  module _ (start : Started k flavors n cells) where
    abbrev fresh : Behind k fl (λ t. 0) 0 (fresh_machine k flavors n) cells
    fresh = fresh_behind k flavors n cells start.counts start.pool_length (λ t. 0)

    gone : Ran k fl n (λ t. 0) 0 (fresh_machine k flavors n) cells fresh calls
    gone = run_goes k fl n (λ t. 0) 0 (fresh_machine k flavors n) cells fresh calls (omega arith) refl lends

    from_fresh : s ≡ last
    from_fresh = ap (λ (a : After). run a.called.machine a.cells calls) start.is

    -- a state of the model stands behind the machine that the session reached: what proofs/Named says holds of it
    pub reached : (jobs : ℕ → ℕ) × Behind k fl jobs (length calls) s.machine s.cells
    reached =
        let e : 0 + length calls ≡ length calls = omega arith in
        (gone.jobs_now, rw from_fresh (subst (λ (c : ℕ). Behind k fl gone.jobs_now c last.machine last.cells) e gone.behind))

    conserved_so : (j : ℕ) → (answered s.history j ≤ accepted s.history j)
        × (AtRest s.machine → accepted s.history j ≡ answered s.history j + standing s.machine s.cells j)
    conserved_so j =
        let r = gone in
        let z = fresh_total k flavors n cells start.counts start.pool_length (λ t. 0) j in
        rw from_fresh (
          omega (arith, r.bal j, z),
          λ h. omega (
            arith,
            r.bal j,
            z,
            standing_is k fl r.jobs_now (0 + length calls) (omega arith) last.machine last.cells r.behind h j,
          ),
        )

    reached_so : Reached B.Done cells s
    reached_so =
        let r = gone in
        rw from_fresh (
          call_sound k fl r.jobs_now (0 + length calls) (omega arith) last.machine last.cells r.behind,
          r.fine,
        )

  -- ---- after a setup that was refused

  module _ (r : Refusal) (is : setup_of k flavors n cells ≡ refused zero_machine r cells) where
    pub as_it_was : AsItWas cells s
    as_it_was = subst (λ (a : After). AsItWas cells (run a.called.machine a.cells calls)) (sym is) (zero_run cells calls)

    conserved_not : (j : ℕ) → (answered s.history j ≤ accepted s.history j)
        × (AtRest s.machine → accepted s.history j ≡ answered s.history j + standing s.machine s.cells j)
    conserved_not j =
        let w = as_it_was in
        let a = w.accepts (λ t. 0) j in
        let b = w.answers j in
        let c : standing s.machine s.cells j ≡ 0 =
        ap (λ (m : Machine). standing m s.cells j) w.machine ∙ zero_stands s.cells j in
        (omega arith, λ h. omega arith)

  -- after a setup that answered Done a state of the model stands behind the machine
  pub reached_done : (setup_of k flavors n cells).called.answer ≡ B.Done → (jobs : ℕ → ℕ) × Behind k fl jobs (length calls) s.machine s.cells
  reached_done h = go (setting_up k flavors n cells)
    where
      not_done : (r : Refusal) → B.Refused r ≡ B.Done → ⊥
      not_done r e = let z : ◌≡◌ {A = ℕ} 0 1 = cc in omega arith

      go : SetUp k flavors n cells → (jobs : ℕ → ℕ) × Behind k fl jobs (length calls) s.machine s.cells
      go (set_up start) = reached start
      go (turned_away r is) = absurd (not_done r (sym (ap (λ (a : After). a.called.answer) is) ∙ h))

  -- ---- the statements

  -- no job lost, none doubled
  pub conserved : (j : ℕ) → (answered s.history j ≤ accepted s.history j)
      × (AtRest s.machine → accepted s.history j ≡ answered s.history j + standing s.machine s.cells j)
  conserved j = go (setting_up k flavors n cells)
    where
      go : SetUp k flavors n cells → (answered s.history j ≤ accepted s.history j)
          × (AtRest s.machine → accepted s.history j ≡ answered s.history j + standing s.machine s.cells j)
      go (set_up start) = conserved_so start j
      go (turned_away r is) = conserved_not r is j

  -- after a setup that answered Done every reached state is sound: refusal 3 is never given, and refusal 1 only where the list that was lent is not the
  -- pool; after one that was refused every call is refused with 3, and nothing changes
  pub reached_sound : Reached (setup_of k flavors n cells).called.answer cells s
  reached_sound = go (setting_up k flavors n cells)
    where
      answers : Answer → Type 0
      answers a = Reached a cells s

      go : SetUp k flavors n cells → Reached (setup_of k flavors n cells).called.answer cells s
      go (set_up start) = subst answers (sym (ap (λ (a : After). a.called.answer) start.is)) (reached_so start)
      go (turned_away r is) =
          let w = as_it_was r is in
          subst answers (sym (ap (λ (a : After). a.called.answer) is)) (w.machine, w.same_cells, w.refusals)
