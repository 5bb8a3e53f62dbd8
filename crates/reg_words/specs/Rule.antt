-- The rule of the table, and what each step tells.
-- Word 0 is the front. Of place p word 1 + p is the key, and word 1 + total + p the register: twice the number of the key's last write, and 1 more where that write has a value.
-- Word 1 + total + total + i is the value of write number i + 1, where it has one.
use Rattle.std.specs.Prelude.{◌≡◌, ◌≢◌, ℕ, ◌+◌, ◌-◌, ◌*◌, ◌/◌, ◌≤◌, ◌<◌, max, List, [], ◌∷◌, ◌++◌, length, slice_index, slice_set, replicate, Option, Some, None}
use mathlib.Core.Option.{some}
use lib.ListN.{get_elem?}
use Rattle.atomic_table.specs.Table.{State, Me, Step}
use Rattle.acct_base.specs.declared.register.Key.{Key}
use Rattle.acct_base.specs.declared.register.Write.{Write}
use Rattle.acct_base.specs.declared.register.Seen.{Seen}
use Rattle.acct_base.specs.declared.sizes.RegSizes.{RegSizes}
use Rattle.reg_words.specs.declared.view.View.{View}
use Rattle.reg_words.specs.declared.view.Kind.{Kind}
use Rattle.reg_words.specs.declared.view.Kind.TheVariants.{Gone, Writer, Reader}
use Rattle.reg_words.specs.declared.view.Stage.{Stage}
use Rattle.reg_words.specs.declared.view.Stage.TheVariants.{Idle, Probing, Found}
use Rattle.acct_base.specs.declared.register.Key.TheVariants.{Cookie}
use Rattle.acct_base.specs.Journal.{last_write, IsTrueRead}
use Rattle.reg_words.specs.Registers.{IsPrefix}
use Rattle.acct_base.specs.Registers.{IsValueOf}
use Rattle.reg_words.specs.Journal.{IsLast, value_at, has, longer, shorter}
use Rattle.reg_words.specs.Places.{code, rows, total, spot, AllDecided, At, Owned}

-- A state of the table: it has no slots.
abbrev St : Type 0
St = State (Unit {0}) View

-- A register has the number of its key's last write, doubled, and 1 more where that write has a value.
abbrev pub RegisterIs : List Write → Key → ℕ → Type 0
RegisterIs journal key r = (v : ℕ) × (r ≡ 2 * v + has (value_at journal v)) × IsLast journal key v

module _ (z : RegSizes) (places : List ℕ) where
  -- Where a reader stands in a look-up is so by the words of the places.
  abbrev pub Stands : Stage → Type 0
  Stands Idle = Unit {0}
  Stands (Probing key turn) = AllDecided z places key turn
  Stands (Found key turn) = At z places key turn

-- Whoever stands there knows that the key met another key at each turn below this one.
abbrev pub Met : RegSizes → Stage → Key → ℕ → Type 0
Met z stage key turn = (places : List ℕ) → Stands z places stage → AllDecided z places key turn

module _ (z : RegSizes) (plan : View) (writer seat : ℕ) (d : View) where
  -- What a seat's view says is so: the writer's is the plan itself, a reader's lists are beginnings of the journal.
  abbrev pub Knows : Kind → Type 0
  Knows Gone = Unit {0}
  Knows Writer = (d ≡ plan) × (seat ≡ writer)
  Knows Reader = (d.limits ≡ z) × IsPrefix d.list plan.list × IsPrefix d.told plan.list × (length d.told ≤ length d.list) × Stands z plan.places d.stage

-- Each value of the writes has its key's form.
abbrev pub AllFormed : List Write → Type 0
AllFormed journal = (i : ℕ) (w : Write) (x : ℕ) → get_elem? journal i ≡ some w → w.value ≡ Some x → IsValueOf w.key x

-- The writer's view tells of every word: the front is published writes alone (`front_is`, `shown`); the key words are the view's (`keys`),
-- each taken one is a key's own (`owned`), and the register of a free place is 0 (`blank`); each register is its key's (`regs`), each written
-- key has a place (`written`), and each value has its word (`values`), also the one that is stored for the next write (`next`). Each value has
-- its key's form (`formed`).
pub record Tells (z : RegSizes) (words : List ℕ) (w : View) : Type 0 where
  pub sized : w.limits ≡ z
  pub role : w.kind ≡ Writer
  pub room : length w.list ≤ z.writes
  pub front_is : slice_index words 0 ≡ w.front
  pub shown : w.front ≤ length w.list
  pub brought : IsPrefix w.told w.list
  pub placed : length w.places ≡ total z
  pub keys : (p : ℕ) → p < total z → slice_index words (1 + p) ≡ slice_index w.places p
  pub owned : (p : ℕ) → p < total z → slice_index w.places p ≢ 0 → Owned z w.places p
  pub blank : (p : ℕ) → p < total z → slice_index w.places p ≡ 0 → slice_index words (1 + total z + p) ≡ 0
  pub regs : (key : Key) (turn : ℕ) → At z w.places key turn → RegisterIs w.list key (slice_index words (1 + total z + spot z key turn))
  pub written : (i : ℕ) (u : Write) → get_elem? w.list i ≡ some u → (turn : ℕ) × At z w.places u.key turn
  pub values : (i : ℕ) (u : Write) (x : ℕ) → get_elem? w.list i ≡ some u → u.value ≡ Some x → slice_index words (1 + total z + total z + i) ≡ x
  pub next : (x : ℕ) → w.pending ≡ Some x → (length w.list < z.writes) × (slice_index words (1 + total z + total z + length w.list) ≡ x)
  pub formed : AllFormed w.list

-- The rule of the table. The plan, which is the writer's view, tells of every word, and each seat knows what is so.
pub record Kept (z : RegSizes) (s : St) : Type 0 where
  pub plan : View
  pub writer : ℕ
  pub wide : length s.words ≡ 1 + total z + total z + z.writes
  pub tells : Tells z s.words plan
  pub open tells use *
  pub each_seat : (j : ℕ) (d : View) → get_elem? s.views j ≡ some d → Knows z plan writer j d d.kind

-- A view without a look-up, a load or a read.
abbrev pub view : RegSizes → Kind → List Write → List ℕ → View
view z kind list places = record { limits = z; kind = kind; list = list; told = []; places = places; pending = None; front = 0; stage = Idle; loads = 0; loaded = 0; reads = [] }

-- The writer's view at the start.
abbrev pub opening_view : RegSizes → View
opening_view z = view z Writer [] (replicate (total z) 0)

abbrev pub no_limits : RegSizes
no_limits = record { cookies = 0; sets = 0; owners = 0; writes = 0 }

-- What is left of a seat that was joined into another.
abbrev pub spent : View
spent = view no_limits Gone [] []

-- A split leaves the first seat as it was.
abbrev pub kept_left : View → View
kept_left v = v

-- A new reader knows what the first seat knows, and has read nothing.
abbrev pub fresh_right : View → View
fresh_right v = view v.limits Reader v.list []

-- A reader that took another in knows the longer of the two lists, and has the reads of both.
abbrev pub joined : View → View → View
joined a b = record a { list = longer a.list b.list; told = shorter a.list b.list; reads = a.reads ++ b.reads }

-- The writer is told what a reader knows.
abbrev pub was_told : View → View → View
was_told a b = record a { told = b.list }

-- What a seat has at the table.
abbrev Seated : Type 0
Seated = Me (Unit {0}) View

-- Of which word a step is.
abbrev AtStep : Type 0
AtStep = Step (Unit {0})

abbrev pub write_of : Key → Option ℕ → Write
write_of k o = record { key = k; value = o }

abbrev pub seen_at : ℕ → Option ℕ → Seen
seen_at v o = record { version = v; value = o }

-- What the writer's stores leave. A write takes its place in the journal at its register's store.
abbrev pub stored_value : AtStep → Seated → ℕ → Seated → Type 0
stored_value st m r m' = (m'.0 ≡ record m.0 { pending = Some r }) × (m'.1 ≡ m.1)

abbrev pub stored_key : AtStep → Seated → ℕ → Seated → Type 0
stored_key st m r m' = (m'.0 ≡ record m.0 { places = slice_set m.0.places (st.word - 1) r }) × (m'.1 ≡ m.1)

abbrev pub stored_register : Key → AtStep → Seated → ℕ → Seated → Type 0
stored_register key st m r m' = (m'.0 ≡ record m.0 { list = m.0.list ++ write_of key m.0.pending ∷ []; pending = None }) × (m'.1 ≡ m.1)

abbrev pub stored_front : AtStep → Seated → ℕ → Seated → Type 0
stored_front st m r m' = (m'.0 ≡ record m.0 { front = r }) × (m'.1 ≡ m.1)

-- A load of the front: what the reader knew is a prefix of what it knows, which is as many writes as the greater of the two numbers.
pub record Fronted (m : View) (r : ℕ) (m' : View) : Type 0 where
  pub known : List Write
  pub grows : IsPrefix m.list known
  pub long : length known ≡ max r (length m.list)
  pub inside : r ≤ m.limits.writes
  pub unnamed : last_write known (length known) (Cookie 0) ≡ 0
  pub after : m' ≡ record m { list = known; loads = m.loads + 1; loaded = r }

-- The key has no place: no write of it is known, and the read is over.
pub record Missed (key : Key) (m m' : View) : Type 0 where
  pub truth : IsTrueRead m.list (length m.list) key (seen_at 0 None)
  pub unnamed : last_write m.list (length m.list) (Cookie 0) ≡ 0
  pub after : m' ≡ record m { stage = Idle; reads = m.reads ++ (key, seen_at 0 None) ∷ [] }

-- A load of a key word at a turn: the key is found, a free place or the last turn ends the read, and else the next turn follows.
pub record Probed (key : Key) (turn : ℕ) (m : View) (r : ℕ) (m' : View) : Type 0 where
  pub hit : r ≡ code key → m' ≡ record m { stage = Found key turn }
  pub free : r ≡ 0 → Missed key m m'
  pub on : r ≢ 0 → r ≢ code key → turn + 1 < rows m.limits key → m' ≡ record m { stage = Probing key (turn + 1) }
  pub full : r ≢ 0 → r ≢ code key → rows m.limits key ≤ turn + 1 → Missed key m m'

-- A load of a register: what the reader knew is a prefix of what it knows, in which the version is the key's last write. Where that write has no value the read is over.
pub record Registered (key : Key) (m : View) (r : ℕ) (m' : View) : Type 0 where
  pub known : List Write
  pub version : ℕ
  pub grows : IsPrefix m.list known
  pub long : length known ≡ max (length m.list) version
  pub inside : version ≤ m.limits.writes
  pub small : r / 2 ≤ m.limits.writes
  pub holds : r ≡ 2 * version + has (value_at known version)
  pub last : IsLast known key version
  pub truth : IsTrueRead known (length m.list) key (seen_at version (value_at known version))
  pub unnamed : last_write known (length known) (Cookie 0) ≡ 0
  pub empty : has (value_at known version) ≡ 0 → m' ≡ record m { list = known; stage = Idle; reads = m.reads ++ (key, seen_at version None) ∷ [] }
  pub full : has (value_at known version) ≢ 0 → m' ≡ record m { list = known; stage = Idle }

-- A load of a value, by which the read is over.
pub record Valued (key : Key) (version : ℕ) (m : View) (r : ℕ) (m' : View) : Type 0 where
  pub value : value_at m.list version ≡ Some r
  pub form : IsValueOf key r
  pub after : m' ≡ record m { reads = m.reads ++ (key, seen_at version (Some r)) ∷ [] }

abbrev pub loaded_front : AtStep → Seated → ℕ → Seated → Type 0
loaded_front st m r m' = Fronted m.0 r m'.0 × (m'.1 ≡ m.1)

abbrev pub loaded_key : Key → ℕ → AtStep → Seated → ℕ → Seated → Type 0
loaded_key key turn st m r m' = Probed key turn m.0 r m'.0 × (m'.1 ≡ m.1)

abbrev pub loaded_register : Key → AtStep → Seated → ℕ → Seated → Type 0
loaded_register key st m r m' = Registered key m.0 r m'.0 × (m'.1 ≡ m.1)

abbrev pub loaded_value : Key → ℕ → AtStep → Seated → ℕ → Seated → Type 0
loaded_value key version st m r m' = Valued key version m.0 r m'.0 × (m'.1 ≡ m.1)

-- A load after a join, by the writer or by a reader, tells that the shorter list begins the longer. It is of a key's word, never of the front.
abbrev pub settled : AtStep → Seated → ℕ → Seated → Type 0
settled st m r m' = (st.word ≢ 0) × IsPrefix m.0.told m.0.list × (m'.0 ≡ m.0) × (m'.1 ≡ m.1)
