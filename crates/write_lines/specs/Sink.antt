-- A sink: a buffer with the text put into it so far.
use Rattle.std.specs.Prelude.{ℕ, ◌+◌, ◌-◌, List, length, take}
use Rattle.moves_text.specs.Buffer.{overlaid_at}
use Rattle.write_lines.specs.declared.Sink.{Sink}

-- more text behind what is there, as much of it as fits, and the length of all of it, which counts no further than 64 bits do
unfoldable pub with_text : List ℕ → Sink → Sink
with_text text s =
    let counted = take (18446744073709551615 - s.at) text in
    record s { buffer = record s.buffer { now = overlaid_at s.at counted s.buffer.now }; at = s.at + length counted }
