-- What is answered and written at bytes enough for a cell, and at too few.
use Prim.Native.Nat.{ℕ, ◌≤◌, ◌<◌}
use mathlib.Core.Bool.{false}
use mathlib.Core.List.{List}
use mathlib.Core.Path.{◌≡◌, refl}
use lib.ListN.{length}
use borrow.Author.Tests.{lt-ltb, le-ltb}
use Rattle.model.specs.Upstream.{check}
use Rattle.events.specs.Events.{is_admitted, list_after}
use Rattle.events.specs.declared.Event.{Event}
use Rattle.events.specs.declared.Answer.TheVariants.{Admitted}
use Rattle.canonical_text.specs.Writing.{writing, buffer_after}
use Rattle.cell_layout.specs.Layout.{cell_size, plan_in, list_in, with_plan, with_list}
use Rattle.cell_layout.specs.HostAnswers.{packed_check, packed_answer, packed_drain, cell_answer, cell_drain, no_cell, read_answer, read_cell, check_answer}
use Rattle.cell_layout.specs.HostAnswers.{packed_writing, write_answer, written_buffer, event_answer, event_cell, drain_answer, drain_cell}
use Rattle.cell_layout.proofs.Cells.{is_cell_lem, no_cell_lem}

-- too few bytes
module _ (bytes : List ℕ) (h : length bytes < cell_size) where
  pub no_read : (text : List ℕ) → (no_cell ≡ read_answer text bytes) × (bytes ≡ read_cell text bytes)
  unfolding read_answer read_cell with_plan
  no_read text = (rw (no_cell_lem bytes h) refl, rw (no_cell_lem bytes h) refl)

  pub no_write : (buffer : List ℕ) → (no_cell ≡ write_answer bytes buffer) × (buffer ≡ written_buffer bytes buffer)
  unfolding write_answer written_buffer
  no_write buffer = (rw (no_cell_lem bytes h) refl, rw (no_cell_lem bytes h) refl)

  pub no_check : no_cell ≡ check_answer bytes
  unfolding check_answer
  no_check = rw (no_cell_lem bytes h) refl

  pub no_event : (e : Event) → (no_cell ≡ event_answer bytes e) × (bytes ≡ event_cell bytes e)
  unfolding event_answer event_cell
  no_event e = (rw (no_cell_lem bytes h) refl, rw (no_cell_lem bytes h) refl)

  pub no_drain : (budget : ℕ) → (no_cell ≡ drain_answer bytes budget) × (bytes ≡ drain_cell bytes budget)
  unfolding drain_answer drain_cell
  no_drain budget = (rw (no_cell_lem bytes h) refl, rw (no_cell_lem bytes h) refl)

-- enough of them
module _ (bytes : List ℕ) (h : cell_size ≤ length bytes) where
  pub plan_written : (buffer : List ℕ)
      → (packed_writing (writing (plan_in bytes) buffer) ≡ write_answer bytes buffer) × (buffer_after (plan_in bytes) buffer ≡ written_buffer bytes buffer)
  unfolding write_answer written_buffer
  plan_written buffer = (rw (is_cell_lem bytes h) refl, rw (is_cell_lem bytes h) refl)

  pub checked : packed_check (check (plan_in bytes)) ≡ check_answer bytes
  unfolding check_answer
  checked = rw (is_cell_lem bytes h) refl

  pub event_answered : (e : Event) → event_answer bytes e ≡ packed_answer (cell_answer bytes e)
  unfolding event_answer
  event_answered e = rw (is_cell_lem bytes h) refl

  pub event_refused : (e : Event) → is_admitted (cell_answer bytes e) ≡ false
      → (packed_answer (cell_answer bytes e) ≡ event_answer bytes e) × (bytes ≡ event_cell bytes e)
  unfolding event_answer event_cell
  event_refused e refused = (rw (is_cell_lem bytes h) refl, rw (refused, is_cell_lem bytes h) refl)

  pub event_admitted : (e : Event) → cell_answer bytes e ≡ Admitted
      → (0 ≡ event_answer bytes e) × (with_list (list_after (plan_in bytes) (list_in bytes) e) bytes ≡ event_cell bytes e)
  unfolding event_answer event_cell
  event_admitted e admitted = (rw (admitted, is_cell_lem bytes h) refl, rw (admitted, is_cell_lem bytes h) refl)

  pub drain_still : (budget : ℕ) → (cell_drain bytes budget).moves ≤ 0
      → (packed_drain (cell_drain bytes budget) ≡ drain_answer bytes budget) × (bytes ≡ drain_cell bytes budget)
  unfolding drain_answer drain_cell
  drain_still budget none = (rw (is_cell_lem bytes h) refl, rw (le-ltb 0 (cell_drain bytes budget).moves none, is_cell_lem bytes h) refl)

  pub drain_moved : (budget : ℕ) → 0 < (cell_drain bytes budget).moves
      → (packed_drain (cell_drain bytes budget) ≡ drain_answer bytes budget) × (with_list (cell_drain bytes budget).list bytes ≡ drain_cell bytes budget)
  unfolding drain_answer drain_cell
  drain_moved budget some = (rw (is_cell_lem bytes h) refl, rw (lt-ltb 0 (cell_drain bytes budget).moves some, is_cell_lem bytes h) refl)
