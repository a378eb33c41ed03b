-- The numbers of document 01, each in this one place.
use Rattle.std.specs.Prelude.{ℕ}

-- A book has 1 to 32,768 bytes.
abbrev pub most_bytes : ℕ
most_bytes = 32768

-- Procedures: 1 to 32.
abbrev pub most_procedures : ℕ
most_procedures = 32

-- Bytes of an entry of the contents.
abbrev pub entry_bytes : ℕ
entry_bytes = 6

-- Parameters: 0 to 8.
abbrev pub most_parameters : ℕ
most_parameters = 8

-- Locals: 0 to 8.
abbrev pub most_locals : ℕ
most_locals = 8

-- The greatest depth of a command or expression.
abbrev pub most_depth : ℕ
most_depth = 24

-- The loops that a book may hold.
abbrev pub most_loops : ℕ
most_loops = 64

-- The started procedure stands at call depth 1; depth 65 is too deep.
abbrev pub most_calls : ℕ
most_calls = 64

-- The greatest budget.
abbrev pub most_steps : ℕ
most_steps = 1000000

-- The work cells that are lent at the least, and that a run leaves 0.
abbrev pub least_cells : ℕ
least_cells = 1024

-- Levels of a table: 1 to 16.
abbrev pub most_levels : ℕ
most_levels = 16
