-- What a call does to a page: text that goes to a sink through a buffer.
use Rattle.std.specs.Prelude.{◌≡◌, ℕ, ◌≤◌, ◌⊎◌, Bool, true, false, Option, List, [], ◌++◌}
use Rattle.std.specs.Io.KnownBytes.{Appends}
use Rattle.outside.specs.Outside.{Rose}
use Rattle.dump_text.specs.declared.page.Page.{Page}

-- Nothing is put on the page yet.
pub record IsFresh {K : Type 0} (page : Page K) : Type 0 where
  pub empty : page.buffer.now ≡ []
  pub works : page.has_failed ≡ false

module _ {K : Type 0} (written : K → Option (List ℕ)) (faults : K → ℕ) where
  -- A text was put on the page: of what waited and the text a front went to the sink, and the rest waits. After a failed write nothing
  -- more goes out, and the rest is lost.
  pub record Puts (old new : Page K) (text : List ℕ) : Type 0 where
    pub same_sink : new.sink.ghost_name ≡ old.sink.ghost_name
    pub same_buffer : new.buffer.ghost_name ≡ old.buffer.ghost_name
    pub front : List ℕ
    pub rest : List ℕ
    pub whole : old.buffer.now ++ text ≡ front ++ rest
    pub wrote : Appends (written old.sink.now) (written new.sink.now) front
    pub waits : new.has_failed ≡ false → (new.buffer.now ≡ rest) × (old.has_failed ≡ false)
    pub stopped : old.has_failed ≡ true → (front ≡ []) × (new.has_failed ≡ true)
    pub cause : new.has_failed ≡ true → (old.has_failed ≡ true) ⊎ Rose (faults old.sink.now) (faults new.sink.now)
    pub count : faults old.sink.now ≤ faults new.sink.now

  -- Bytes were sent to the sink, unless a write failed before: all of them, or a front where the write fails now.
  pub record Sends (old new : K) (had_failed has_failed : Bool) (bytes : List ℕ) : Type 0 where
    pub front : List ℕ
    pub rest : List ℕ
    pub whole : bytes ≡ front ++ rest
    pub wrote : Appends (written old) (written new) front
    pub all : has_failed ≡ false → (rest ≡ []) × (had_failed ≡ false)
    pub none : had_failed ≡ true → (front ≡ []) × (has_failed ≡ true)
    pub cause : has_failed ≡ true → (had_failed ≡ true) ⊎ Rose (faults old) (faults new)
    pub count : faults old ≤ faults new
