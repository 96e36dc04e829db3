-- Document 02, change 1: one call counted in an array of counters, and the lines of the counters put into a space.
-- ns: the counters, of which the one at i is of place i / 42 and row i % 42.
use Rattle.std.specs.Prelude.{◌≡◌, Bool, not, ◌&&◌, ◌||◌, cond, List, [], ◌∷◌, ℕ, ◌+◌, ◌*◌, ◌/◌, ◌%◌, leb, length, get_or, set}
use Rattle.lemmas.specs.Tests.{◌is◌, ◌isnt◌, ◌over◌}
use Rattle.octets.specs.Numbers.{bytes_put}
use Rattle.lines.specs.Text.{place_after}
use Rattle.rules.specs.Report.{none, rows_of_place, counter_count, count_line}

-- ---- a call counted
abbrev pub counter_at : ℕ → ℕ → ℕ
counter_at place row = place * rows_of_place + row

-- the largest number that a counter holds
abbrev pub most_count : ℕ
most_count = 18_446_744_073_709_551_615

-- an array of len counters has none of the place and the row
abbrev pub no_counter : ℕ → ℕ → ℕ → Bool
no_counter len place row = (len isnt counter_count) || (place over none) || leb rows_of_place row

-- the counter is there, and not full
abbrev pub counts : List ℕ → ℕ → ℕ → Bool
counts ns place row = not (no_counter (length ns) place row) && (get_or ns (counter_at place row) 0 isnt most_count)

-- then it is one more; all else stays
abbrev pub counted : List ℕ → ℕ → ℕ → List ℕ
counted ns place row =
    cond (counts ns place row) (set ns (counter_at place row) (get_or ns (counter_at place row) 0 + 1)) ns

-- what a call's count returns, and the counters after it
abbrev pub Counted : List ℕ → ℕ → ℕ → Bool → List ℕ → Type 0
Counted ns place row r ns' = (r ≡ counts ns place row) × (ns' ≡ counted ns place row)

-- ---- the lines of the counters
-- of the counter at i, which is n: none where it is 0
abbrev pub counter_text : ℕ → ℕ → List ℕ
counter_text i n = cond (n is 0) [] (count_line (record { place = i / rows_of_place; row = i % rows_of_place; count = n }))

-- a space, and the place after what was put into it last
pub record Put : Type 0 where
  pub space : List ℕ
  pub end : ℕ

-- a text more: where it does not fit, it is left out
abbrev pub text_put : Put → List ℕ → Put
text_put p t = record {
  space = bytes_put p.space p.end t;
  end = place_after (length p.space) p.end (length t);
}

-- the lines of the counters from the one at i on, one after another
unfoldable pub counters_put : ℕ → List ℕ → Put → Put
counters_put i [] p = p
counters_put i (n ∷ ns) p = counters_put (i + 1) ns (text_put p (counter_text i n))

-- all are put into s from place i on: what the space is then, and the place r after them
abbrev pub CountersPut : List ℕ → List ℕ → ℕ → ℕ → List ℕ → Type 0
CountersPut ns s i r s' = record { space = s'; end = r } ≡ counters_put 0 ns (record { space = s; end = i })
