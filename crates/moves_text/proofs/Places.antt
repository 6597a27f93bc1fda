-- The numbers that are printed are small: of an answer the paper's number, and a place that a search up to a count of a sound
-- plan found; of a table the jobs, at most 64; of a text its lines.
use Prim.Native.Nat.{ℕ, zero, suc, ◌+◌, ◌≤◌, ◌<◌}
use native.Mathlib.Omega.{arith}
use mathlib.Core.Bool.{Bool, true, false, cond}
use mathlib.Core.List.{List, [], ◌∷◌}
use mathlib.Core.Logic.{⊎_elim}
use mathlib.Core.Path.{◌≡◌}
use lib.ListN.{length, drop}
use Rattle.model.specs.Limits.{max_jobs}
use Rattle.model.specs.Numbers.{lowest, Each}
use Rattle.model.specs.Questions.{Question, answer_of}
use Rattle.model.specs.Plan.{length_of}
use Rattle.model.specs.Jobs.{exceeded, excess_of, worst_row, broken, loaded, advanced, removed}
use Rattle.model.specs.Soundness.{Sound}
use Rattle.model.specs.Upstream.{faulty_stage, faulty_type, faulty_row, faulty_bound, check_numbers, check_questions, check}
use Rattle.model.specs.declared.Plan.{Plan}
use Rattle.model.specs.declared.Job.{Job}
use Rattle.model.specs.declared.Check.{Check}
use Rattle.model.specs.declared.Check.TheVariants.{Meets, NotOneUnit}
use Rattle.model.proofs.Decide.{Decides, holding, failing, decides_le, lowest_within, greatest_within}
use Rattle.model.proofs.Soundness.{decides_sound}
use Rattle.events.specs.JobList.{jobs_of, agrees}
use Rattle.events.specs.Events.{answer_numbers, kept_questions, own_questions, answer, list_after}
use Rattle.events.specs.declared.JobList.{JobList}
use Rattle.events.specs.declared.Event.{Event}
use Rattle.events.specs.declared.Event.TheVariants.{Load, Advance, Unload, Pull}
use Rattle.events.specs.declared.Answer.{Answer}
use Rattle.events.specs.declared.Answer.TheVariants.{Admitted}
use Rattle.events.proofs.Answers.{admitted_or_not, admitted_holds, list_refused, agrees_after}
use Rattle.plan_text.specs.Lines.{Line, lines_of}
use Rattle.plan_text.specs.Records.{record_in}
use Rattle.plan_text.specs.Draft.{Draft, empty_draft, draft_after}
use Rattle.plan_text.specs.TextQuestions.{max_text, text_number}
use Rattle.plan_text.specs.Reading.{line_questions, is_complete, read_from, reading}
use Rattle.plan_text.specs.declared.TextAnswer.{TextAnswer}
use Rattle.plan_text.specs.declared.TextAnswer.TheVariants.{Accepted, TooLong, BadLine, BadLetter, BadFields, OutOfRange, Repeated, Incomplete}
use Rattle.plan_text.specs.declared.Reading.{Reading}
use Rattle.moves_text.proofs.CountedFew.{lines_few}

pub active_few : (p : Plan) (t : JobList) (e : Event) → t.count ≤ max_jobs → (list_after p t e).count ≤ max_jobs
active_few p t e few =
    ⊎_elim
    (λ (h : answer p t e ≡ Admitted).
    let holds = admitted_holds p t e h in
    (agrees_after p t e holds.0 holds.1.0).few)
    (λ h. rw (list_refused p t e h) few)
    (admitted_or_not (answer p t e))

-- what a search up to a small count finds
lowest_small : (n : ℕ) (f : ℕ → Bool) → n < 100 → lowest n f < 100
lowest_small n f h = omega (arith, lowest_within n f)

module _ {A : Type 0} (Small : A → Type 0) where
  -- what holds of either
  either : (b : Bool) (x y : A) → Small x → Small y → Small (cond b x y)
  either true x y h k = h
  either false x y h k = k

  -- the same, of the first only where a condition holds
  either_where : {P : Type 0} {b : Bool} (x y : A) → Decides P b → (P → Small x) → Small y → Small (cond b x y)
  either_where x y (holding h) f k = f h
  either_where x y (failing h) f k = k

  -- what holds of the acceptance and of each refusal
  abbrev Refusals : List (Question A) → Type 0
  Refusals qs = Each (λ (q : Question A). Small q.refusal) qs

  answer_of_lem : (ok : A) (qs : List (Question A)) → Small ok → Refusals qs → Small (answer_of ok qs)
  answer_of_lem ok [] h k = h
  answer_of_lem ok (q ∷ qs) h k = either q.met (answer_of ok qs) q.refusal (answer_of_lem ok qs h k.1) k.0

-- an answer to an event: its number and its place
abbrev pub SmallAnswer : Answer → Type 0
SmallAnswer a = ((answer_numbers a).0 < 100) × ((answer_numbers a).1 < 100)

module _ (p : Plan) (sound : Sound p) where
  exceeded_small : (js : List Job) → exceeded p js < 100
  unfolding exceeded
  exceeded_small js = lowest_small p.resources _ (omega (arith, sound.resources))

  broken_small : (js : List Job) → broken p js < 100
  unfolding worst_row
  broken_small js = omega (arith, greatest_within (excess_of p js) p.rows, sound.rows)

  limits : (next : List Job) → Refusals SmallAnswer (kept_questions p next)
  limits next = (omega (arith, exceeded_small next), (omega (arith, broken_small next), tt))

  own_refusals : (js : List Job) (e : Event) → Refusals SmallAnswer (own_questions p js e)
  own_refusals js (Load n t) = (omega arith, (omega arith, (omega arith, (omega arith, limits (loaded n t js)))))
  own_refusals js (Advance n) = (omega arith, (omega arith, (omega arith, limits (advanced p n js))))
  own_refusals js (Unload n) = (omega arith, (omega arith, (omega arith, limits (removed n js))))
  own_refusals js (Pull n) = (omega arith, (omega arith, limits (removed n js)))

pub answer_small : (p : Plan) (t : JobList) (e : Event) → SmallAnswer (answer p t e)
unfolding answer
answer_small p t e =
    let own = own_questions p (jobs_of t) e in
    either_where SmallAnswer _ _ (decides_sound p)
    (λ sound.
    either SmallAnswer (agrees p t) _ _ (answer_of_lem SmallAnswer Admitted own (omega arith) (own_refusals p sound (jobs_of t) e)) (omega arith))
    (omega arith)

-- an answer of the check: its number and its two places
abbrev pub SmallCheck : Check → Type 0
SmallCheck c = ((check_numbers c).0 < 100) × ((check_numbers c).1 < 100) × ((check_numbers c).2 < 100)

-- its questions after the soundness of the plan
abbrev later_questions : Plan → List (Question Check)
later_questions p = drop 1 (check_questions p)

module _ (p : Plan) (sound : Sound p) where
  -- a type that the plan has, or none
  length_small : (t : ℕ) → t ≤ p.types → length_of p t < 100
  length_small zero h = omega arith
  length_small (suc t) h = omega (arith, sound.lengths (suc t) (omega arith))

  type_within : faulty_type p ≤ p.types
  unfolding faulty_type
  type_within = lowest_within p.types _

  stage_small : faulty_stage p (faulty_type p) < 100
  unfolding faulty_stage
  stage_small = lowest_small (length_of p (faulty_type p)) _ (length_small (faulty_type p) type_within)

  row_small : faulty_row p < 100
  unfolding faulty_row
  row_small = lowest_small p.rows _ (omega (arith, sound.rows))

  bound_small : faulty_bound p < 100
  unfolding faulty_bound
  bound_small = lowest_small p.rows _ (omega (arith, sound.rows))

  later_refusals : Refusals SmallCheck (later_questions p)
  later_refusals =
      let places : SmallCheck (NotOneUnit (faulty_type p) (faulty_stage p (faulty_type p))) =
      omega (arith, sound.types, type_within, stage_small) in
      (omega arith, (places, (omega arith, (omega (arith, row_small), (omega (arith, bound_small), tt)))))

pub check_places_small : (p : Plan) → SmallCheck (check p)
unfolding check
check_places_small p =
    either_where SmallCheck _ _ (decides_sound p)
    (λ sound. answer_of_lem SmallCheck Meets (later_questions p) (omega arith) (later_refusals p sound)) (omega arith)

-- a reading of a text: its number and its line
pub text_number_small : (a : TextAnswer) → text_number a < 10
text_number_small Accepted = omega arith
text_number_small TooLong = omega arith
text_number_small BadLine = omega arith
text_number_small BadLetter = omega arith
text_number_small BadFields = omega arith
text_number_small OutOfRange = omega arith
text_number_small Repeated = omega arith
text_number_small Incomplete = omega arith

read_line : (n from : ℕ) (d : Draft) (ls : List Line) → (read_from n from d ls).line ≤ n + length ls + 1
read_line n from d [] = either (λ (r : Reading). r.line ≤ n + 0 + 1) (is_complete d) _ _ (omega arith) (omega arith)
read_line n from d (l ∷ ls) =
    answer_of_lem (λ (r : Reading). r.line ≤ n + suc (length ls) + 1) _ (line_questions (n + 1) from d l)
    (omega (arith, read_line (n + 1) (from + length l.bytes + 1) (draft_after d (record_in l.bytes)) ls))
    (omega arith, (omega arith, (omega arith, (omega arith, (omega arith, (omega arith, tt))))))

pub text_line_small : (text : List ℕ) → (reading text).line < 100000
unfolding reading
text_line_small text =
    either_where (λ (r : Reading). r.line < 100000) _ _ (decides_le (length text) max_text)
    (λ few. omega (arith, read_line 0 0 empty_draft (lines_of text), lines_few text)) (omega arith)
