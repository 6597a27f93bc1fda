-- Each part is put at its offset; the three counts at once.
use Rattle.std.proofs.Common.{◌*◌, ◌≡◌, length, refl, ap, ◌∙◌, arith}
use Rattle.plan_bytes.specs.Over.{plan_read}
use Rattle.cell_layout.specs.Layout.{bytes_of, bytes_of_each, capacities_part, ranks_part, bounds_part, lengths_part}
use Rattle.cell_layout.proofs.EntryBytes.{joined_length}
use Rattle.cell_layout.proofs.Parts.{put_into, counts_put}
use Rattle.cell_writes.proofs.lay_frame.Goals as goal

pub returns : goal.returns
unfolding plan_read
returns c =
    let f = c.args.frame.now in
    let capacities : length f.capacity ≡ 32 = omega arith in
    let ranks : length f.rank ≡ 32 = omega arith in
    let bounds : length f.bound ≡ 32 = omega arith in
    let lengths : length f.lengths ≡ 16 = omega arith in
    let bound_bytes = bytes_of_each (bytes_of 2) f.bound in
    let bound_size = joined_length (bytes_of 2) 2 (λ b. refl) f.bound ∙ ap (λ n. 2 * n) bounds in
    put_into lengths_part f.lengths lengths c.put_text-4.ensures.1
    (put_into bounds_part bound_bytes bound_size c.lay_bounds.ensures
    (put_into ranks_part f.rank ranks c.put_text-3.ensures.1
    (put_into capacities_part f.capacity capacities c.put_text-2.ensures.1
    (c.put_text.ensures.1 ∙ counts_put f.resources f.types f.rows c.args.cell.now c.requires))))
