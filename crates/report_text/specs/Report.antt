-- The report (01, 'The C editor and the report'): its text, in ASCII, over the bytes of a stored table.
use Rattle.std.specs.Prelude.{ℕ, ◌+◌, ◌*◌, ◌≤◌, ◌≡◌, length, drop}
use mathlib.Core.List.{List, [], ◌∷◌, ◌++◌, flat_map}
use Rattle.table.specs.Find.{rows}
use Rattle.table.specs.Limits.{max_chains}
use Rattle.table.specs.Read.{unless, read_table, table_of}
use Rattle.table.specs.declared.Row.{Row}
use Rattle.std.specs.declared.result.Result.TheVariants.{Ok, Err}
use Rattle.table.specs.Refusal.{numbered}
use Rattle.table.specs.declared.refusal.Refusal.{Refusal}
use Rattle.windows.specs.Latency.{latency_of, Answer as Latency}
use Rattle.misses.specs.Misses.{misses_of, Answer as Missed}
use Rattle.report_text.specs.Numbers.{decimal, signed}

-- `chain K latency late margin miss10`, and a line feed
abbrev pub header : List ℕ
header = 99 ∷ 104 ∷ 97 ∷ 105 ∷ 110 ∷ 32 ∷ 75 ∷ 32 ∷ 108 ∷ 97 ∷ 116 ∷ 101 ∷ 110 ∷ 99 ∷ 121 ∷ 32 ∷ 108 ∷ 97 ∷ 116 ∷ 101 ∷ 32 ∷ 109 ∷ 97 ∷ 114 ∷ 103 ∷ 105 ∷ 110 ∷ 32 ∷ 109 ∷ 105 ∷ 115 ∷ 115 ∷ 49 ∷ 48 ∷ 10 ∷ []

-- `refused` and a space
abbrev pub refused_word : List ℕ
refused_word = 114 ∷ 101 ∷ 102 ∷ 117 ∷ 115 ∷ 101 ∷ 100 ∷ 32 ∷ []

-- the end of a line, and a word after a space
abbrev pub feed : List ℕ
feed = 10 ∷ []

abbrev pub after_space : List ℕ → List ℕ
after_space word = 32 ∷ word

-- `r` and a number
abbrev pub refusal_text : Refusal → List ℕ
refusal_text n = 114 ∷ decimal (numbered n)

-- the misses are those for k = 10
abbrev pub miss_run : ℕ
miss_run = 10

-- `r` and a number if refused
abbrev pub missed_text : Missed → List ℕ
missed_text (Ok n) = decimal n
missed_text (Err n) = refusal_text n

-- K, latency, late, margin, misses; a latency refusal stands alone
abbrev pub answers_text : Latency → Missed → List ℕ
answers_text (Ok f) missed =
    after_space (decimal f.close) ++ after_space (decimal f.latency) ++ after_space (decimal f.late) ++ after_space (signed f.margin) ++ after_space (missed_text missed)
answers_text (Err n) missed = after_space (refusal_text n)

-- a line: the id, and the two answers
abbrev pub line_text : ℕ → Latency → Missed → List ℕ
line_text id latency missed = decimal id ++ answers_text latency missed ++ feed

-- the line of a chain: what the latency query and the miss query answer for its id
abbrev pub line_of : List ℕ → Row → List ℕ
line_of s r = line_text r.id (latency_of s r.id) (misses_of s r.id miss_run)

-- a refused table prints only one line, `refused`, the number and the place (02, request 1), without the header
abbrev pub refused_text : Refusal → ℕ → List ℕ
refused_text n place = refused_word ++ decimal (numbered n) ++ after_space (decimal place) ++ feed

-- the whole text: header, then a line per chain in table order
unfoldable pub report_of : List ℕ → List ℕ
report_of s = unless refused_text (read_table s).verdict (header ++ flat_map (line_of s) (rows (table_of s)))

-- more bytes no report has: 35 in the header, and 68 in a line of six numbers of 32 bits, one with a sign and one after `r`
abbrev pub longest : ℕ
longest = 35 + max_chains * 68

-- r is answered, and the buffer that held `before` holds `after`: the text's length, never above the longest, and the text,
-- then the rest as it was
pub record Reported (s before after : List ℕ) (r : ℕ) : Type 0 where
  pub answers : r ≡ length (report_of s)
  pub fits : r ≤ longest
  pub leaves : after ≡ report_of s ++ drop (length (report_of s)) before
