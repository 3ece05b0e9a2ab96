-- A climb to a window: where it may start, and the arrivals that it has counted.
use Rattle.std.specs.Prelude.{ℕ, ◌+◌, ◌<◌, ◌≤◌, ◌≡◌, List, length, get_or}
use Rattle.table.specs.Limits.{max_chains, max_activations}
use Rattle.arrivals.specs.Arrivals.{η}
use Rattle.windows.specs.Window.{Window, window_of}
use Rattle.windows.specs.Code.Load.{Load, held_at, own_of, demand_in, Sound}
use Rattle.std.specs.declared.option.Option.TheVariants.{Some}

-- where a climb from below may start: under every s in which its demand fits
pub record Under (d : ℕ → ℕ) (t : ℕ) : Type 0 where
  pub low : 1 ≤ t
  pub under : (s : ℕ) → 1 ≤ s → d s ≤ s → t ≤ s

-- of the first i chains held all arrivals in t are counted, and of the others, up to n, no more than there are
pub record Behind (s held : List ℕ) (i n t : ℕ) (counts : List ℕ) : Type 0 where
  pub size : length counts ≡ max_chains + 1
  pub all : (j : ℕ) → j < i → get_or counts j 0 ≡ η (held_at s held j) t
  pub rest : (j : ℕ) → j < n → get_or counts j 0 ≤ η (held_at s held j) t

-- all arrivals in t of the n chains held are counted, and the chain's own count, at last, is as before
pub record CountsHeld (s held : List ℕ) (n t : ℕ) (before after : List ℕ) : Type 0 where
  pub all : Behind s held n n t after
  pub own : get_or after max_chains 0 ≡ get_or before max_chains 0

-- of the chain's own arrivals and of those held no more are counted than there are in t
pub record Counted (l : Load) (t : ℕ) (counts : List ℕ) : Type 0 where
  pub own : get_or counts max_chains 0 ≤ η (own_of l) t
  pub held : Behind l.bytes l.held 0 l.count t counts

-- what a climb to B(q) asks for
pub record Climbs (l : Load) (q start : ℕ) (counts : List ℕ) : Type 0 where
  pub sound : Sound l
  pub some : 1 ≤ q
  pub few : q ≤ max_activations
  pub under : Under (demand_in l q) start
  pub counted : Counted l start counts

-- and what it leaves: the window, and where there is one, no more counted than there is in it
pub record Climbed (l : Load) (q : ℕ) (r : Window) (counts : List ℕ) : Type 0 where
  pub window : r ≡ window_of (demand_in l q)
  pub counted : (t : ℕ) → r ≡ Some t → Counted l t counts
