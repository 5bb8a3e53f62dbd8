-- The sizes of a script's header are those of an engine.
use Rattle.std.proofs.Common.{◌≡◌, ℕ, List, [], ◌∷◌, ◌++◌, map, sym, ap, subst, ◌∙◌, arith}
use Rattle.std.specs.List.{AllByRecursion}
use Rattle.acct_base.specs.declared.sizes.Sizes.{Sizes}
use Rattle.acct_base.specs.Ranges.{AreSizes}
use Rattle.script_text.specs.declared.header.Header.{Header}
use Rattle.script_text.specs.declared.line.Line.{Line}
use Rattle.script_text.specs.declared.line.Line.TheVariants as lines
use Rattle.script_text.specs.declared.map_name.MapName.{MapName}
use Rattle.script_text.specs.declared.map_name.MapName.TheVariants as maps
use Rattle.script_text.specs.Lines.{IsLine}
use Rattle.script_text.specs.Parts.{default_sizes, with_size, with_sizes}
use Rattle.script_text.specs.Script.{IsFirstHeader}

calls_kept : (s : Sizes) (m : MapName) (n : ℕ) → (with_size s m n).calls ≡ s.calls
calls_kept s maps.Rows n = omega arith
calls_kept s maps.Cookies n = omega arith
calls_kept s maps.Sets n = omega arith
calls_kept s maps.Owners n = omega arith
calls_kept s maps.Writes n = omega arith
calls_kept s maps.Apps n = omega arith
calls_kept s maps.Ifaces n = omega arith

all_calls : (s : Sizes) (ms : List (MapName × ℕ)) → (with_sizes s ms).calls ≡ s.calls
all_calls s [] = omega arith
all_calls s (m ∷ ms) = all_calls (with_size s m.0 m.1) ms ∙ calls_kept s m.0 m.1

-- a script has the calls of each packet that it may have
pub header_calls : (h : Header) → IsFirstHeader h → h.sizes.calls ≡ 1048576
header_calls h is = ap (λ (s : Sizes). s.calls) is.header.sizes_are ∙ all_calls default_sizes h.maps

-- a map's line gives a size that the map can have
sized : (s : Sizes) (m : MapName) (n : ℕ) → AreSizes s → IsLine (lines.Map m n) → AreSizes (with_size s m n)
sized s maps.Rows n a h = let f = h.1.1.0 in record {
  some_rows = f.least_is;
  most_rows = f.most_is;
  regs = a.regs;
  some_apps = a.some_apps;
  most_apps = a.most_apps;
  some_ifaces = a.some_ifaces;
  most_ifaces = a.most_ifaces;
  some_calls = a.some_calls;
  most_calls = a.most_calls;
}
sized s maps.Cookies n a h = let f = h.1.1.0 in record {
  some_rows = a.some_rows;
  most_rows = a.most_rows;
  regs = record { some_cookies = f.least_is; most_cookies = f.most_is; some_sets = a.regs.some_sets; most_sets = a.regs.most_sets; some_owners = a.regs.some_owners; most_owners = a.regs.most_owners; some_writes = a.regs.some_writes; most_writes = a.regs.most_writes };
  some_apps = a.some_apps;
  most_apps = a.most_apps;
  some_ifaces = a.some_ifaces;
  most_ifaces = a.most_ifaces;
  some_calls = a.some_calls;
  most_calls = a.most_calls;
}
sized s maps.Sets n a h = let f = h.1.1.0 in record {
  some_rows = a.some_rows;
  most_rows = a.most_rows;
  regs = record { some_cookies = a.regs.some_cookies; most_cookies = a.regs.most_cookies; some_sets = f.least_is; most_sets = f.most_is; some_owners = a.regs.some_owners; most_owners = a.regs.most_owners; some_writes = a.regs.some_writes; most_writes = a.regs.most_writes };
  some_apps = a.some_apps;
  most_apps = a.most_apps;
  some_ifaces = a.some_ifaces;
  most_ifaces = a.most_ifaces;
  some_calls = a.some_calls;
  most_calls = a.most_calls;
}
sized s maps.Owners n a h = let f = h.1.1.0 in record {
  some_rows = a.some_rows;
  most_rows = a.most_rows;
  regs = record { some_cookies = a.regs.some_cookies; most_cookies = a.regs.most_cookies; some_sets = a.regs.some_sets; most_sets = a.regs.most_sets; some_owners = f.least_is; most_owners = f.most_is; some_writes = a.regs.some_writes; most_writes = a.regs.most_writes };
  some_apps = a.some_apps;
  most_apps = a.most_apps;
  some_ifaces = a.some_ifaces;
  most_ifaces = a.most_ifaces;
  some_calls = a.some_calls;
  most_calls = a.most_calls;
}
sized s maps.Writes n a h = let f = h.1.1.0 in record {
  some_rows = a.some_rows;
  most_rows = a.most_rows;
  regs = record { some_cookies = a.regs.some_cookies; most_cookies = a.regs.most_cookies; some_sets = a.regs.some_sets; most_sets = a.regs.most_sets; some_owners = a.regs.some_owners; most_owners = a.regs.most_owners; some_writes = f.least_is; most_writes = f.most_is };
  some_apps = a.some_apps;
  most_apps = a.most_apps;
  some_ifaces = a.some_ifaces;
  most_ifaces = a.most_ifaces;
  some_calls = a.some_calls;
  most_calls = a.most_calls;
}
sized s maps.Apps n a h = let f = h.1.1.0 in record {
  some_rows = a.some_rows;
  most_rows = a.most_rows;
  regs = a.regs;
  some_apps = f.least_is;
  most_apps = f.most_is;
  some_ifaces = a.some_ifaces;
  most_ifaces = a.most_ifaces;
  some_calls = a.some_calls;
  most_calls = a.most_calls;
}
sized s maps.Ifaces n a h = let f = h.1.1.0 in record {
  some_rows = a.some_rows;
  most_rows = a.most_rows;
  regs = a.regs;
  some_apps = a.some_apps;
  most_apps = a.most_apps;
  some_ifaces = f.least_is;
  most_ifaces = f.most_is;
  some_calls = a.some_calls;
  most_calls = a.most_calls;
}

all_sized : (s : Sizes) (ms : List (MapName × ℕ)) (more : List Line) → AreSizes s → AllByRecursion IsLine (map (λ (m : MapName × ℕ). lines.Map m.0 m.1) ms ++ more) → AreSizes (with_sizes s ms)
all_sized s [] more a h = a
all_sized s (m ∷ ms) more a h = all_sized (with_size s m.0 m.1) ms more (sized s m.0 m.1 a h.0) h.1

-- an engine can be made with a script's sizes
pub header_sizes : (h : Header) → IsFirstHeader h → AreSizes h.sizes
header_sizes h is =
    let first : AreSizes default_sizes = record {
      some_rows = omega arith;
      most_rows = omega arith;
      regs = record {
        some_cookies = omega arith;
        most_cookies = omega arith;
        some_sets = omega arith;
        most_sets = omega arith;
        some_owners = omega arith;
        most_owners = omega arith;
        some_writes = omega arith;
        most_writes = omega arith;
      };
      some_apps = omega arith;
      most_apps = omega arith;
      some_ifaces = omega arith;
      most_ifaces = omega arith;
      some_calls = omega arith;
      most_calls = omega arith;
    } in
    subst AreSizes (sym is.header.sizes_are) (all_sized default_sizes h.maps _ first is.header.fits.1)
