-- A row of exported calls is a session: its words are those of the session's machine, its pool is the session's, and it counts what the session's
-- history counts. So demand 3 holds of it.
use Rattle.std.proofs.Common.{◌≡◌, ℕ, suc, ◌+◌, ◌^◌, ◌<◌, ◌≤◌, Bool, true, eqb, List, [], ◌∷◌, length, get_or, sym, refl, ap, ◌∙◌, subst, arith, eq-eqb, Result, Ok, Err}
use Rattle.base.specs.Tests.{pick}
use Rattle.parts.specs.declared.queue.Flavor.{Flavor}
use Rattle.parts.specs.declared.answer.Answer.{Answer}
use Rattle.parts.specs.declared.answer.Answer.TheVariants.{Done}
use Rattle.parts.specs.declared.answer.Refusal.{Refusal}
use Rattle.gate.specs.declared.Request.{Request}
use Rattle.gate.specs.Gate.{setup_tests}
use Rattle.kinds.specs.declared.Kind.{Kind}
use Rattle.kinds.specs.declared.UnknownKind.{UnknownKind}
use Rattle.kinds.specs.Kinds.{kind_of, request_of}
use Rattle.machine.specs.declared.state.Machine.{Machine}
use Rattle.machine.specs.State.{After}
use Rattle.machine.specs.Setup.{setting_up, setup_of}
use Rattle.machine.specs.Call.{call_of}
use Rattle.machine.specs.Sound.{sound_b}
use Rattle.slots.specs.Queue.{flavors_of}
use Rattle.slots.specs.Answer.{answer_words}
use Rattle.words.specs.Slices.{machine_size, machine_b}
use Rattle.theorem.specs.History.{Call, asks, lent, pool_after, called_of, Lends, Session, run_by, run, session, jobs_after}
use Rattle.theorem.specs.History.{accepted_by, answered_by, accepted_from, answered, standing, AtRest, Reached}
use Rattle.theorem.proofs.Runs.{setup_cells}
use Rattle.theorem.proofs.Refused.{lent_back}
use Rattle.theorem.proofs.Theorem.{conserved, reached_sound}
use Rattle.export.specs.Words.{machine_in, Told}
use Rattle.export.specs.Exported.{unsound_words, set_words, setup_words, SetupTold, called_words, asked_words}
use Rattle.firmware.specs.Rows.{Entry, Promised, Row, words_at, pool_at, asked, calls_in, answer_kind, accepted_as, answered_as, wished_as}
use Rattle.firmware.specs.Rows.{jobs_in, accepted_in, answered_in}
use Rattle.firmware.proofs.Counts.{accepted_is, answered_is, jobs_are}

-- words and a pool, and what was accepted and answered, are a session's
pub record Tells (words cells : List ℕ) (taken : (ℕ → ℕ) → ℕ → ℕ) (given : ℕ → ℕ) (s : Session) : Type 0 where
  pub machine : Told words s.machine
  pub same_pool : cells ≡ s.cells
  pub same_accepted : (jobs : ℕ → ℕ) (j : ℕ) → taken jobs j ≡ accepted_from jobs s.history j
  pub same_answered : (j : ℕ) → given j ≡ answered s.history j

abbrev IsRun : List ℕ → List ℕ → Machine → List Entry → Type 0
IsRun w cells m es = Tells (words_at w es) (pool_at cells es) (λ jobs j. accepted_in jobs es j) (answered_in es) (run m cells (calls_in es))

-- ---- one call more

asked_is : (w cells : List ℕ) (m : Machine) → Told w m → (t : ℕ) (r : Request) → asked_words w cells t r ≡ called_words w (call_of m cells t r)
unfolding asked_words
asked_is w cells m is t r = rw (is.0, is.1)

none_more : (n : ℕ) → 0 + n ≡ n
none_more n = omega arith

module _ (w cells : List ℕ) (m : Machine) (is : Told w m) (e : Entry) (es : List Entry)
    (rest : (w' cells' : List ℕ) (m' : Machine) → Told w' m' → Row w' cells' es → IsRun w' cells' m' es) where
  abbrev With : Result Kind UnknownKind → Type 0
  With r =
      Tells (words_at e.words es) (pool_at (pool_after e.lends cells e.cells) es)
      (λ jobs j. accepted_as (jobs e.thread) e.answer j + accepted_in (jobs_in jobs e r) es j)
      (λ j. answered_as e.answer j + answered_in es j)
      (run m cells (asked e r (calls_in es)))

  one_more : (r : Result Kind UnknownKind) → Promised w cells e r → Row e.words (pool_after e.lends cells e.cells) es → With r
  unfolding run_by called_of accepted_from answered
  one_more (Ok k) p row =
      let t = e.thread in
      let r : Request = request_of t k e.source e.operand in
      let a : After = call_of m (lent e.lends cells) t r in
      let left = p.0 ∙ asked_is w (lent e.lends cells) m is t r in
      let cs : e.cells ≡ a.cells = ap (λ x. x.1) left in
      let an : e.answer ≡ answer_words a.called.answer = ap (λ x. x.2) left in
      let told : Told e.words a.called.machine =
      subst (λ (x : Machine). Told e.words (call_of x (lent e.lends cells) t r).called.machine) is.1 (p.1 is.0) in
      let ih = rest e.words (pool_after e.lends cells a.cells) a.called.machine told
      (subst (λ (x : List ℕ). Row e.words (pool_after e.lends cells x) es) cs row) in
      record {
        machine = ih.machine;
        same_pool = ap (λ (x : List ℕ). pool_at (pool_after e.lends cells x) es) cs ∙ ih.same_pool;
        same_accepted = λ jobs j.
            ap (λ (x : List ℕ). accepted_as (jobs t) x j + accepted_in (pick (eqb (answer_kind x) 0) (wished_as (Ok k) jobs t e.operand) jobs) es j) an
            ∙ (λ i. accepted_is (jobs t) a.called.answer j i
            + accepted_in (jobs_are jobs e.lends t e.source e.operand k a.called.answer i) es j)
            ∙ ap (λ (x : ℕ). accepted_by (jobs t) a.called.answer j + x) (ih.same_accepted (jobs_after jobs (asks e.lends t r) a.called.answer) j);
        same_answered = λ j.
            ap (λ (x : List ℕ). answered_as x j + answered_in es j) an
            ∙ ap (λ (x : ℕ). x + answered_in es j) (answered_is a.called.answer j)
            ∙ ap (λ (x : ℕ). answered_by a.called.answer j + x) (ih.same_answered j);
      }
  one_more (Err x) p row =
      let ws : e.words ≡ w = ap (λ x. x.0) p.0 in
      let an = ap (λ x. x.2) p.0 in
      let back : pool_after e.lends cells e.cells ≡ cells = ap (λ x. pool_after e.lends cells x.1) p.0 ∙ lent_back e.lends cells in
      let ih = rest w cells m is (subst (λ (x : List ℕ). Row x cells es) ws (subst (λ (x : List ℕ). Row e.words x es) back row)) in
      record {
        machine = subst (λ (x : List ℕ). Told (words_at x es) (run m cells (calls_in es)).machine) (sym ws) ih.machine;
        same_pool = ap (λ (x : List ℕ). pool_at x es) back ∙ ih.same_pool;
        same_accepted = λ jobs j.
            ap (λ (x : List ℕ). accepted_as (jobs e.thread) x j + accepted_in (pick (eqb (answer_kind x) 0) jobs jobs) es j) an
            ∙ none_more (accepted_in jobs es j)
            ∙ ih.same_accepted jobs j;
        same_answered = λ j. ap (λ (x : List ℕ). answered_as x j + answered_in es j) an ∙ none_more (answered_in es j) ∙ ih.same_answered j;
      }

pub row_is : (w cells : List ℕ) (m : Machine) → Told w m → (es : List Entry) → Row w cells es → IsRun w cells m es
unfolding Row words_at pool_at calls_in accepted_in answered_in run_by accepted_from answered
row_is w cells m is [] row = record { machine = is; same_pool = refl; same_accepted = λ jobs j. refl; same_answered = λ j. refl }
row_is w cells m is (e ∷ es) row = one_more w cells m is e es (λ w' cells' m' is'. row_is w' cells' m' is' es) (kind_of e.kind) row.0 row.1

-- ---- how many a row's calls are

asked_length : (e : Entry) (r : Result Kind UnknownKind) (cs : List Call) (n : ℕ) → length cs ≤ n → length (asked e r cs) ≤ suc n
asked_length e (Ok k) cs n h = omega arith
asked_length e (Err x) cs n h = omega arith

pub calls_length : (es : List Entry) → length (calls_in es) ≤ length es
unfolding calls_in
calls_length [] = omega arith
calls_length (e ∷ es) = asked_length e (kind_of e.kind) (calls_in es) (length es) (calls_length es)

-- ---- the theorem

-- a setup answers Done, or is refused
set_up_is : (g : Result Unit Refusal) (k : ℕ) (flavors : List Flavor) (n : ℕ) (cells : List ℕ)
    → answer_words (setting_up g k flavors n cells).called.answer ≡ answer_words Done → (setting_up g k flavors n cells).called.answer ≡ Done
set_up_is (Ok x) k flavors n cells e = refl
set_up_is (Err r) k flavors n cells e = absurd (let kinds : 10 ≡ 1 = ap (λ (x : List ℕ). get_or x 0 0) e in omega arith)

done_is : (w cells : List ℕ) (k bits n : ℕ) → length w ≡ machine_size → (setup_words w cells k bits n).1 ≡ answer_words Done
    → (setup_of k (flavors_of bits) n cells).called.answer ≡ Done
unfolding setup_words setup_of
done_is w cells k bits n size e = set_up_is (setup_tests k n (length cells)) k (flavors_of bits) n cells
    (subst (λ (b : Bool). (pick b (set_words w (setup_of k (flavors_of bits) n cells)) (w, unsound_words)).1 ≡ answer_words Done) (eq-eqb _ _ size) e)

-- 91 words, whatever they are, and the cells, whatever they are; a setup that left `first`, refused or not; a row of fewer than 2^62 calls
module _ (w cells : List ℕ) (k bits n : ℕ) (size : length w ≡ machine_size) (first answer : List ℕ)
    (is_set_up : (first, answer) ≡ setup_words w cells k bits n) (set_up_told : SetupTold w cells k bits n first)
    (es : List Entry) (row : Row first cells es) (few : length es < 2 ^ 62) (lends : Lends n (calls_in es)) where
  abbrev s : Session
  s = session k (flavors_of bits) n cells (calls_in es)

  abbrev m : Machine
  m = machine_in (words_at first es)

  pub is_session : Tells (words_at first es) (pool_at cells es) (λ jobs j. accepted_in jobs es j) (answered_in es) s
  is_session =
      subst (λ (x : List ℕ). Tells (words_at first es) (pool_at cells es) (λ jobs j. accepted_in jobs es j) (answered_in es)
      (run (setup_of k (flavors_of bits) n cells).called.machine x (calls_in es)))
      (sym (setup_cells k (flavors_of bits) n cells))
      (row_is first cells (setup_of k (flavors_of bits) n cells).called.machine (set_up_told size) es row)

  -- no job lost, none doubled, by the numbers that crossed the interface
  pub conserved_in_words : (j : ℕ) → (answered_in es j ≤ accepted_in (λ t. 0) es j)
      × (AtRest m → accepted_in (λ t. 0) es j ≡ answered_in es j + standing m (pool_at cells es) j)
  conserved_in_words j =
      let fewer = calls_length es in
      let c = conserved k (flavors_of bits) n cells (calls_in es) (omega arith) lends j in
      rw (is_session.same_accepted (λ t. 0) j, is_session.same_answered j, is_session.machine.1, is_session.same_pool) c

  -- the words are a machine's; after a setup that answered Done it is sound, and no call on them gets 3
  pub sound_in_words : (machine_b (words_at first es) ≡ true) × (answer ≡ answer_words Done → sound_b m ≡ true)
  sound_in_words = (is_session.machine.0, λ answers_done. rw is_session.machine.1 (reached_done answers_done).0)
    where
      reached_done : answer ≡ answer_words Done → Reached Done cells s
      reached_done h =
          let fewer = calls_length es in
          let done = done_is w cells k bits n size (sym (ap (λ x. x.1) is_set_up) ∙ h) in
          subst (λ (a : Answer). Reached a cells s) done (reached_sound k (flavors_of bits) n cells (calls_in es) (omega arith) lends)
