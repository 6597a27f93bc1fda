-- The line that is held until its LF comes, and what it then means. Its first 64 bytes say it: an event line has 13 at most, and a longer line
-- is skipped if it begins with `#` and malformed if not (`held_means_lem`).
use Rattle.std.specs.Prelude.{ℕ, ◌+◌, min, true, cond, List, leb, length, take, replicate, Option, Some}
use Rattle.plan_text.specs.Lines.{is_skipped}
use Rattle.moves_text.specs.Buffer.{overlaid_at}
use Rattle.moves_text.specs.EventLines.{event_in}
use Rattle.moves_text.specs.declared.EventLine.{EventLine}
use Rattle.moves_text.specs.declared.EventLine.TheVariants.{Skipped, Malformed}
use Rattle.told_text.specs.Slips.{event_slip}
use Rattle.told_text.specs.declared.Slip.{Slip}
use Rattle.told_text.specs.declared.Slip.TheVariants.{LongLine}
use Rattle.desk_text.specs.declared.HeldLine.{HeldLine}

-- so many bytes of a line are held
abbrev pub room : ℕ
room = 64

abbrev pub no_line : HeldLine
no_line = record { bytes = replicate room 0; count = 0 }

-- the line with more bytes, of which as many are kept as there is room for
unfoldable pub held_with : HeldLine → List ℕ → HeldLine
held_with h more = record { bytes = overlaid_at h.count more h.bytes; count = min (h.count + length more) (room + 1) }

-- what it means when its LF has come
unfoldable pub held_means : HeldLine → EventLine
held_means h =
    cond (leb h.count room) (event_in (record { bytes = take h.count h.bytes; ended = true })) (cond (is_skipped h.bytes) Skipped Malformed)

-- the slip in it, where it is malformed
unfoldable pub held_slip : HeldLine → Option Slip
held_slip h = cond (leb h.count room) (event_slip (take h.count h.bytes)) (Some LongLine)
