-- The largest numbers of document 01, each under one name, and the largest sum that follows from them.
use Rattle.std.specs.Prelude.{ℕ, ◌*◌}

abbrev pub max_resources : ℕ
max_resources = 32

abbrev pub max_types : ℕ
max_types = 16

abbrev pub max_rows : ℕ
max_rows = 32

-- of one type, and of all types together
abbrev pub max_stages : ℕ
max_stages = 32

abbrev pub max_all_stages : ℕ
max_all_stages = 128

-- of a capacity, a rank and a weight
abbrev pub max_units : ℕ
max_units = 255

abbrev pub max_bound : ℕ
max_bound = 65535

abbrev pub max_number : ℕ
max_number = 65535

-- jobs active together
abbrev pub max_jobs : ℕ
max_jobs = 64

-- of a row's sum, that of 64 jobs of weight 255: 16,320. So also of an excess, where the bound is 0
abbrev pub max_sum : ℕ
max_sum = max_jobs * max_units
