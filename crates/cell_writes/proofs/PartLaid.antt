-- Bytes copied into a part of a slice are laid over it.
use Rattle.std.proofs.Common.{ℕ, ◌+◌, ◌≡◌, ◌≤◌, List, length, drop, refl, arith}
use Rattle.std.proofs.Math.ListN.{length-drop}
use Rattle.std.proofs.Math.Seq.{take_all}
use borrow.Rule.Slice.PartMut.{put_mid}
use Rattle.moves_text.specs.Buffer.{overlaid_at}

pub part_laid : (at k : ℕ) (new bytes : List ℕ) → length new ≡ k → at + k ≤ length bytes → put_mid at k bytes new ≡ overlaid_at at new bytes
part_laid at k new bytes e h = rw (take_all (length (drop at bytes)) new (omega (arith, length-drop at bytes)), e) refl
