-- The byte is written where there is room for it.
use Rattle.std.proofs.Common.{arith}
use Rattle.write_lines.proofs.Bytes.{byte_put, byte_left_out}
use Rattle.write_lines.proofs.Sink.put_byte.Goals as goal
use Rattle.write_lines.proofs.Sink.put_byte.Goals.{then-self, else-self}

pub returns : goal.returns
returns c =
    let s = c.args.self.now in
    let ends = c.saturating_add-self.ensures in
    elim c.if-self.branch [
      | then-self w ↦ byte_put c.args.byte s ends w.if-self.true (omega arith) w.self-is
      | else-self w ↦ byte_left_out c.args.byte s ends w.if-self.false (omega arith) w.self-is
    ]
