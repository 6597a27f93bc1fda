-- The texts of the worked runs, as document 01 writes such, and the numbers of a plan.
use Rattle.std.specs.Prelude.{ℕ, List, [], ◌∷◌, ◌++◌}
use Rattle.model.specs.declared.Stage.{Stage}
use Rattle.model.specs.declared.Plan.{Plan}
use Rattle.moves_text.specs.Quoted.{quoted}

-- one resource with a capacity of 255, one type, and no T; and with 256
unfoldable pub capacity_text : List ℕ
capacity_text = quoted "C\t1\t1\t0\nR\t1\t255\n"

unfoldable pub large_capacity_text : List ℕ
large_capacity_text = quoted "C\t1\t1\t0\nR\t1\t256\n"

-- five types, of which four have 32 stages each, 128 in all; and with one stage for the fifth, 129
unfoldable pub stages_text : List ℕ
stages_text = quoted "C\t1\t5\t0\nR\t1\t1\nT\t1\t32\nT\t2\t32\nT\t3\t32\nT\t4\t32\n"

unfoldable pub more_stages_text : List ℕ
unfolding stages_text
more_stages_text = stages_text ++ quoted "T\t5\t1\n"

-- a line that stands there twice: the shown part is the second of them
unfoldable pub repeated_text : List ℕ
repeated_text = quoted "C\t1\t1\t0\nR\t1\t1\nR\t1\t1\n"

-- two types, of which the second has no T yet when a unit is demanded
unfoldable pub unfinished_text : List ℕ
unfinished_text = quoted "C\t1\t2\t0\nR\t1\t1\nT\t1\t1\nS\t1\t1\t1\t1\n"

-- the crossing plan's text, section by section
unfoldable pub crossing_text : List ℕ
crossing_text =
    quoted "C\t3\t2\t3\n"
    ++ quoted "R\t1\t1\nR\t2\t1\nR\t3\t1\n"
    ++ quoted "T\t1\t3\nT\t2\t3\n"
    ++ quoted "S\t1\t1\t1\t1\nS\t1\t2\t2\t1\nS\t1\t3\t3\t1\nS\t2\t1\t3\t1\nS\t2\t2\t2\t1\nS\t2\t3\t1\t1\n"
    ++ quoted "B\t1\t1\nB\t2\t1\nB\t3\t1\n"
    ++ quoted "A\t1\t1\t1\t1\nA\t1\t2\t3\t1\nA\t2\t1\t1\t1\nA\t2\t1\t2\t1\nA\t2\t2\t1\t1\nA\t2\t2\t2\t1\nA\t3\t1\t3\t1\nA\t3\t2\t1\t1\n"
    ++ quoted "K\t1\t1\nK\t2\t2\nK\t3\t1\n"

-- the same plan by another hand: each section from its end on, leading zeros, comments and empty lines
unfoldable pub shuffled_text : List ℕ
shuffled_text =
    quoted "# crossing\n\nC\t03\t2\t00003\n"
    ++ quoted "R\t3\t1\nR\t2\t01\nR\t1\t1\n\n"
    ++ quoted "T\t2\t3\n# the first type\nT\t1\t3\n"
    ++ quoted "S\t2\t3\t1\t1\nS\t2\t2\t2\t1\nS\t2\t1\t3\t1\nS\t1\t3\t3\t1\nS\t1\t2\t2\t1\nS\t1\t1\t1\t1\n"
    ++ quoted "B\t3\t00001\nB\t2\t1\nB\t1\t1\n"
    ++ quoted "A\t3\t2\t1\t1\nA\t3\t1\t3\t1\nA\t2\t2\t2\t1\nA\t2\t2\t1\t1\nA\t2\t1\t2\t1\nA\t2\t1\t1\t1\nA\t1\t2\t3\t1\nA\t1\t1\t1\t1\n"
    ++ quoted "K\t3\t1\nK\t2\t2\nK\t1\t1\n#\n"

-- one stage, two rows: the weight of 0 in row 1 is left out, and the bound of 0 of row 2 is written
unfoldable pub one_stage_text : List ℕ
one_stage_text = quoted "C\t1\t1\t2\nR\t1\t255\nT\t1\t1\nS\t1\t1\t1\t1\nB\t1\t10\nB\t2\t0\nA\t2\t1\t1\t255\n"

-- the input of the whole run, and what is printed
unfoldable pub whole_input : List ℕ
unfolding crossing_text
whole_input = crossing_text ++ quoted "E\nL\t7\t1\nL\t8\t2\nA\t7\nL\t8\t2\nA\t7\nL\t8\t2\nU\t7\nL\t8\t2\n"

unfoldable pub whole_output : List ℕ
whole_output =
    quoted "P\t0\t0\nQ\t0\t0\t0\n"
    ++ quoted "1\t0\t0\t1\n2\t19\t2\t1\n3\t0\t0\t1\n4\t19\t2\t1\n5\t0\t0\t1\n6\t18\t3\t1\n7\t0\t0\t0\n8\t0\t0\t1\n"

-- the crossing plan with pulls: of a job at stage 1, of number 0, of a job that is gone
unfoldable pub pull_input : List ℕ
unfolding crossing_text
pull_input = crossing_text ++ quoted "E\nL\t7\t1\nL\t8\t2\nX\t7\nL\t8\t2\nX\t0\nX\t7\n"

unfoldable pub pull_output : List ℕ
pull_output =
    quoted "P\t0\t0\nQ\t0\t0\t0\n"
    ++ quoted "1\t0\t0\t1\n2\t19\t2\t1\n3\t0\t0\t0\n4\t0\t0\t1\n5\t13\t0\t1\n6\t14\t0\t1\n"

-- all numbers of a plan
stage_numbers : List Stage → List ℕ
stage_numbers [] = []
stage_numbers (s ∷ ss) = s.demand ++ (s.weight ++ stage_numbers ss)

unfoldable pub plan_numbers : Plan → List ℕ
unfolding stage_numbers
plan_numbers p =
    p.resources ∷ p.types ∷ p.rows ∷ (p.capacity ++ (p.rank ++ (p.bound ++ (p.lengths ++ stage_numbers p.stages))))
