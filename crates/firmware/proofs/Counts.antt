-- What an answer counts for is read from its words.
use Rattle.std.proofs.Common.{◌≡◌, ℕ, Bool, true, false, eqb, refl, Ok}
use Rattle.base.specs.Tests.{pick}
use Rattle.steal.specs.declared.Steal.TheVariants as T
use Rattle.parts.specs.declared.answer.Answer.{Answer}
use Rattle.parts.specs.declared.answer.Answer.TheVariants.{Working, Done, Job, Nothing, Stolen, Moved, Length, GaveUp, Refused}
use Rattle.kinds.specs.declared.Kind.{Kind}
use Rattle.kinds.specs.declared.Kind.TheVariants as K
use Rattle.kinds.specs.Kinds.{request_of}
use Rattle.slots.specs.Answer.{answer_words}
use Rattle.theorem.specs.History.{Lent, asks, accepted_by, answered_by, begun_by, jobs_after}
use Rattle.firmware.specs.Rows.{answer_kind, accepted_as, answered_as, wished_as}

pub accepted_is : (x : ℕ) (a : Answer) (j : ℕ) → accepted_as x (answer_words a) j ≡ accepted_by x a j
accepted_is x Working j = refl
accepted_is x Done j = refl
accepted_is x (Job v) j = refl
accepted_is x Nothing j = refl
accepted_is x (Stolen T.Empty) j = refl
accepted_is x (Stolen (T.Success v)) j = refl
accepted_is x (Stolen T.Retry) j = refl
accepted_is x Moved j = refl
accepted_is x (Length d n) j = refl
accepted_is x (GaveUp s) j = refl
accepted_is x (Refused r) j = refl

pub answered_is : (a : Answer) (j : ℕ) → answered_as (answer_words a) j ≡ answered_by a j
answered_is Working j = refl
answered_is Done j = refl
answered_is (Job v) j = refl
answered_is Nothing j = refl
answered_is (Stolen T.Empty) j = refl
answered_is (Stolen (T.Success v)) j = refl
answered_is (Stolen T.Retry) j = refl
answered_is Moved j = refl
answered_is (Length d n) j = refl
answered_is (GaveUp s) j = refl
answered_is (Refused r) j = refl

-- a begin that is not refused answers Working
begun_is : (a : Answer) (new old : ℕ → ℕ) → pick (eqb (answer_kind (answer_words a)) 0) new old ≡ begun_by a new old
begun_is Working new old = refl
begun_is Done new old = refl
begun_is (Job v) new old = refl
begun_is Nothing new old = refl
begun_is (Stolen T.Empty) new old = refl
begun_is (Stolen (T.Success v)) new old = refl
begun_is (Stolen T.Retry) new old = refl
begun_is Moved new old = refl
begun_is (Length d n) new old = refl
begun_is (GaveUp s) new old = refl
begun_is (Refused r) new old = refl

either_way : {A : Type 0} (b : Bool) (x : A) → pick b x x ≡ x
either_way true x = refl
either_way false x = refl

pub jobs_are : (jobs : ℕ → ℕ) (l : Lent) (t src n : ℕ) (k : Kind) (a : Answer)
    → pick (eqb (answer_kind (answer_words a)) 0) (wished_as (Ok k) jobs t n) jobs ≡ jobs_after jobs (asks l t (request_of t k src n)) a
jobs_are jobs l t src n K.Step a = either_way (eqb (answer_kind (answer_words a)) 0) jobs
jobs_are jobs l t src n K.Push a = begun_is a (wished_as (Ok K.Push) jobs t n) jobs
jobs_are jobs l t src n K.Pop a = begun_is a jobs jobs
jobs_are jobs l t src n K.OwnLength a = begun_is a jobs jobs
jobs_are jobs l t src n K.Length a = begun_is a jobs jobs
jobs_are jobs l t src n K.Steal a = begun_is a jobs jobs
jobs_are jobs l t src n K.Batch a = begun_is a jobs jobs
jobs_are jobs l t src n K.BatchAndPop a = begun_is a jobs jobs
