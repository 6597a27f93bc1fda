-- What an inner function of the writer puts, under one name. No promise rests on it: the writer's contract is an equation with `writing`
-- and `space_after`.
use Rattle.std.specs.Prelude.{ℕ}
use Rattle.plan_text.specs.Records.{section_s, section_a}
use Rattle.plan_text.specs.Draft.{of_section}
use Rattle.plan_text.specs.Meaning.{line}
use Rattle.plan_text.specs.declared.Record.{Record}

-- the record of an entry, like another: of S and A the entry's number and value come behind the first two numbers, of R, T and K first
abbrev pub entry_of : Record → ℕ → ℕ → Record
entry_of r i v =
    let behind = line r.section r.first r.second i v in of_section r section_s behind (of_section r section_a behind (line r.section i v 0 0))
