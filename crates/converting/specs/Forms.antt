-- A chain in the other form (02, request 7).
use Rattle.std.specs.Prelude.{ℕ, List, Bool, true, not, ◌&&◌, ◌||◌, get_or, replicate, eqb, ltb}
use Rattle.search.specs.Choice.{◌when◌else◌}
use Rattle.table.specs.Limits.{max_distances, max_gap}
use Rattle.table.specs.Record.{gap_form, largest_form, spaced, pad, largests}
use Rattle.table.specs.declared.Row.{Row}
use Rattle.slices.specs.Slices.{same}
use Rattle.converting.specs.declared.To.{To}
use Rattle.converting.specs.declared.To.TheVariants.{Largest, Gap}

-- g, 2g, 3g, .., n of them
abbrev pub multiples : ℕ → ℕ → List ℕ
multiples g n = spaced (λ m. m) g n g

-- a chain with this form, flag, gap and largest distances; all else of it stays
abbrev pub in_form : Row → ℕ → ℕ → ℕ → List ℕ → Row
in_form r form flag gap largest =
    record {
      form = form;
      id = r.id;
      kind = r.kind;
      overload = r.overload;
      flag = flag;
      deadline = r.deadline;
      gap = gap;
      listed = r.listed;
      tasks = r.tasks;
      list = r.list;
      largest = largest;
      priority = r.priority;
      cost = r.cost;
    }

-- with largest distances: gap g > 0 becomes flag 1 and (n − 1)·g, gap 0 becomes flag 0
abbrev pub with_largest : Row → Row
with_largest r = in_form r largest_form (0 when eqb r.gap 0 else 1) 0 (pad max_distances (multiples r.gap r.listed))

-- with a gap: the first largest distance, which is 0 where none is known
abbrev pub first_largest : Row → ℕ
first_largest r = get_or r.largest 0 0

abbrev pub with_gap : Row → Row
with_gap r = in_form r gap_form 0 (first_largest r) (replicate max_distances 0)

-- a chain can be said with a gap, 0 where none is known, exactly where its flag is 0 or its list is of that shape with a gap of at most
-- 10,000,000
unfoldable pub fits_gap : Row → Bool
fits_gap r = eqb r.flag 0 || not (ltb max_gap (first_largest r)) && same (largests r) (multiples (first_largest r) r.listed)

-- either: the form's mark, the chains that can be said in it, and a chain in it
abbrev pub form_of : To → ℕ
form_of Largest = largest_form
form_of Gap = gap_form

abbrev pub fits_form : To → Row → Bool
fits_form Largest r = true
fits_form Gap r = fits_gap r

abbrev pub converted : To → Row → Row
converted Largest r = with_largest r
converted Gap r = with_gap r
