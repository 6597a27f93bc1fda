-- Bytes are enough for a cell, or they are not.
use Prim.Native.Nat.{ℕ, ◌≤◌, ◌<◌}
use mathlib.Core.Bool.{true, false}
use mathlib.Core.List.{List}
use mathlib.Core.Path.{◌≡◌}
use lib.ListN.{length}
use borrow.Author.Tests.{le-leb, lt-leb}
use Rattle.cell_layout.specs.Layout.{cell_size, is_cell}

pub is_cell_lem : (bytes : List ℕ) → cell_size ≤ length bytes → is_cell bytes ≡ true
is_cell_lem bytes h = le-leb cell_size (length bytes) h

pub no_cell_lem : (bytes : List ℕ) → length bytes < cell_size → is_cell bytes ≡ false
no_cell_lem bytes h = lt-leb cell_size (length bytes) h
