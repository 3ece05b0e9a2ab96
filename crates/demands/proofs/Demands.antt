-- The three demands, each closed by one theorem. Assumes nothing.
use Rattle.table.proofs.Fields.{blames, refused-placed}
use Rattle.segments.proofs.Answers.{answer-records}
use Rattle.report_text.proofs.Decimals.{decimal-value, decimal-first}
use Rattle.demands.specs.Demands.{Demand1, Demand2, Demand3}
use Rattle.demands.proofs.Entries.{every-entry, refusal-numbers}
use Rattle.demands.proofs.Saving.{seen-records}
use Rattle.demands.proofs.Merges.{merge-of-copies}
use Rattle.demands.proofs.Converts.{conversions}
use Rattle.demands.proofs.Salvages.{salvaging}
use Rattle.demands.proofs.Rows.{rows-and-tables}
use Rattle.demands.proofs.Figures.{counted, formerly, stretched, latency_means, latency-only}
use Rattle.demands.proofs.Misses.{misses_mean, answers-right}
use Rattle.demands.proofs.Runs.{within_run, last_column, longer_run}
use Rattle.demands.proofs.Sieve.{second_ways}
use Rattle.demands.proofs.Former.{none_grows}
use Rattle.demands.proofs.Others.{same-besides, reordered, ids-deadlines-largest, regrouped}
use Rattle.demands.proofs.Saves.{saved-deadline_or_largest}
use Rattle.demands.proofs.Calls.{same-latency_call, same-misses_call}
use Rattle.demands.proofs.Witness.{met}

pub demand_1 : Demand1
demand_1 = record { entries = every-entry; numbers = refusal-numbers; places = λ s e. (refused-placed s e, blames s e); saves = seen-records; merges = merge-of-copies; writes = rows-and-tables; converts = conversions; salvages = salvaging }

pub demand_2 : Demand2
demand_2 = record {
  arrivals = counted;
  former_rule = formerly;
  largest = stretched;
  windows = latency_means;
  only = latency-only;
  misses = misses_mean;
  within_run = within_run;
  last_column = last_column;
  longer_run = longer_run;
  second_ways = second_ways;
  none_grows = none_grows;
  printed = λ n. (decimal-value n, decimal-first n);
  segment = answer-records;
}

pub demand_3 : Demand3
demand_3 = record {
  same = same-besides;
  right = λ h. (answers-right h.one, answers-right h.two);
  order = reordered;
  names_deadlines_largest = ids-deadlines-largest;
  splits = regrouped;
  saved = saved-deadline_or_largest;
  latency_calls = λ h long x y. same-latency_call h long x y;
  misses_calls = λ h k long x y. same-misses_call h long k x y;
  witness = met;
}
