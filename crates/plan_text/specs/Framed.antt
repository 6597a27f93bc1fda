-- A reading as it runs, with a frame and bytes for its plan, is a reading.
use Rattle.plan_bytes.specs.Over.{plan_over}
use Rattle.plan_text.specs.declared.Reading.{Reading}
use Rattle.plan_text.specs.declared.FramedReading.{FramedReading}

abbrev pub reading_from : FramedReading → Reading
reading_from r =
    record { answer = r.answer; line = r.line; from = r.from; to = r.to; plan = plan_over r.frame r.stages }
