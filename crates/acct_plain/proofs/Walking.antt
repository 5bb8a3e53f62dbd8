-- The walk grows at its end, and the replay keeps up with it.
use Rattle.std.proofs.Common.{◌≡◌, ℕ, zero, suc, Bool, true, false, ◌&&◌, ◌+◌, ◌*◌, ◌≤◌, ◌<◌, List, [], ◌∷◌, ◌++◌, length, take, get_or, refl, sym, ap, subst, ◌∙◌, arith, append-nil, length-append}
use Rattle.std.specs.Prelude.{cond, if◌then◌else◌, Option, Some, slice_get, unwrap_or}
use Rattle.std.specs.List.{AllByRecursion}
use Rattle.std.proofs.lemmas.List.{take_more}
use Rattle.std.proofs.lemmas.List.Elements.{filter-append}
use Rattle.acct_base.specs.declared.receipt.LineReceipt.{LineReceipt}
use Rattle.acct_base.specs.declared.receipt.LineReceipt.TheVariants as line
use Rattle.acct_base.specs.declared.receipt.ListReceipt.{ListReceipt}
use Rattle.acct_base.specs.declared.sizes.Sizes.{Sizes}
use Rattle.acct_base.specs.Receipts.{Call}
use Rattle.acct_base.specs.Receipts.Call.{Allow, Deny}
use Rattle.desk_core.specs.declared.command.Command.{Command}
use Rattle.desk_core.specs.declared.command.Reply.{Reply}
use Rattle.desk_core.specs.Commands.{reply, collects, is_done, after_command}
use Rattle.shelf.specs.declared.report.SectionOut.{SectionOut}
use Rattle.captures.specs.Calls.{SectionCalls}
use Rattle.captures.specs.Runs.{Past}
use Rattle.acct_plain.specs.Serial.{serial_line, ended_phase, with_phase, after_call, after_desk_line, walk_lane, walk_lanes, walk_desk, walk_section, walk_sections}
use Rattle.acct_plain.specs.Kept.{Tables, Keeps}
use Rattle.acct_plain.specs.Walks.{IsLaneWalked, AreLanesWalked, IsDeskWalked, IsSectionWalked, AreSectionsWalked, calls_made, calls_of_sections, collecting}
use Rattle.acct_plain.proofs.Keeping.{keeps_more}

-- ---- a list call charges nothing

same_lists : (p : Tables) (past : Past) (n : ℕ) → Keeps p past n → Keeps p (record past { charges = past.charges ++ []; apps = past.apps ++ []; ifaces = past.ifaces ++ [] }) (n + 3)
same_lists p past n k =
    let same : past ≡ record past { charges = past.charges ++ []; apps = past.apps ++ []; ifaces = past.ifaces ++ [] } =
    λ i. record past { charges = sym (append-nil past.charges) i; apps = sym (append-nil past.apps) i; ifaces = sym (append-nil past.ifaces) i } in
    subst (λ (x : Past). Keeps p x (n + 3)) same (keeps_more p past n (n + 3) (omega arith) k)

pub allow_kept : (p : Tables) (past : Past) (n sock_uid cookie : ℕ) (received : Bool) (r : ListReceipt) → Keeps p past n → Keeps p (after_call past (Allow sock_uid cookie received) (line.List r)) (n + 3)
allow_kept p past n sock_uid cookie received r k = same_lists p past n k

pub deny_kept : (p : Tables) (past : Past) (n sock_uid : ℕ) (r : ListReceipt) → Keeps p past n → Keeps p (after_call past (Deny sock_uid) (line.List r)) (n + 3)
deny_kept p past n sock_uid r k = same_lists p past n k

-- ---- one more line

abbrev pub lane_pair : Past → List (ℕ × LineReceipt) → Past × List (ℕ × LineReceipt)
lane_pair past out = (past, out)

lane_more : (sizes : Sizes) (past : Past) (calls : List (ℕ × Call)) (c : ℕ × Call) →
    walk_lane sizes past (calls ++ c ∷ []) ≡ lane_pair (after_call (walk_lane sizes past calls).0 c.1 (serial_line sizes (walk_lane sizes past calls).0 c.1)) ((walk_lane sizes past calls).1 ++ (c.0, serial_line sizes (walk_lane sizes past calls).0 c.1) ∷ [])
lane_more sizes past [] c = refl
lane_more sizes past (d ∷ ds) c =
    let r = serial_line sizes past d.1 in
    let rest = lane_more sizes (after_call past d.1 r) ds c in
    λ i. lane_pair (rest i).0 ((d.0, r) ∷ (rest i).1)

pub walked_more : (start mid end : Tables) (calls more : List (ℕ × Call)) (c : ℕ × Call) (out : List (ℕ × LineReceipt)) (r : LineReceipt) → mid.sizes ≡ start.sizes → more ≡ calls ++ c ∷ [] →
    IsLaneWalked start mid calls out →
    ((past : Past) (n : ℕ) → Keeps mid past n → (r ≡ serial_line mid.sizes past c.1) × Keeps end (after_call past c.1 r) (n + 3)) →
    IsLaneWalked start end more (out ++ (c.0, r) ∷ [])
walked_more start mid end calls more c out r sizes is w f = λ past n k.
    let first = w past n k in
    let w0 = (walk_lane start.sizes past calls).0 in
    let second = f w0 (n + 3 * length calls) first.1 in
    let r_is : r ≡ serial_line start.sizes w0 c.1 = second.0 ∙ ap (λ (s : Sizes). serial_line s w0 c.1) sizes in
    let whole = ap (walk_lane start.sizes past) is ∙ lane_more start.sizes past calls c in
    let longer : length more ≡ length calls + 1 = ap (λ (xs : List (ℕ × Call)). length xs) is ∙ length-append calls (c ∷ []) in
    let outs : out ++ (c.0, r) ∷ [] ≡ (walk_lane start.sizes past calls).1 ++ (c.0, serial_line start.sizes w0 c.1) ∷ [] = λ i. first.0 i ++ (c.0, r_is i) ∷ [] in
    let kept : Keeps end (after_call w0 c.1 (serial_line start.sizes w0 c.1)) (n + 3 * length more) =
    subst (λ (x : LineReceipt). Keeps end (after_call w0 c.1 x) (n + 3 * length more)) r_is (keeps_more end (after_call w0 c.1 r) (n + 3 * length calls + 3) (n + 3 * length more) (omega (arith, longer)) second.1) in
    (outs ∙ sym (ap (λ (x : Past × List (ℕ × LineReceipt)). x.1) whole), subst (λ (x : Past). Keeps end x (n + 3 * length more)) (sym (ap (λ (x : Past × List (ℕ × LineReceipt)). x.0) whole)) kept)

pub walked_none : (p : Tables) (out : List (ℕ × LineReceipt)) → out ≡ [] → IsLaneWalked p p [] out
walked_none p out e = λ past n k. (e, keeps_more p past n (n + 3 * 0) (omega arith) k)

-- ---- one more command

abbrev pub desk_pair : Past → List (ℕ × Reply) → Past × List (ℕ × Reply)
desk_pair past out = (past, out)

desk_more : (privileged : List ℕ) (sizes : Sizes) (past : Past) (desk : List (ℕ × Command)) (c : ℕ × Command) →
    walk_desk privileged sizes past (desk ++ c ∷ []) ≡ desk_pair (after_desk_line privileged sizes (walk_desk privileged sizes past desk).0 c.1)
    ((walk_desk privileged sizes past desk).1 ++ (c.0, reply (walk_desk privileged sizes past desk).0.journal privileged sizes.regs c.1) ∷ [])
desk_more privileged sizes past [] c = refl
desk_more privileged sizes past (d ∷ ds) c =
    let rest = desk_more privileged sizes (after_desk_line privileged sizes past d.1) ds c in
    λ i. desk_pair (rest i).0 ((d.0, reply past.journal privileged sizes.regs d.1) ∷ (rest i).1)

pub desk_walked_more : (start mid end : Tables) (desk more : List (ℕ × Command)) (c : ℕ × Command) (out : List (ℕ × Reply)) (r : Reply) → mid.sizes ≡ start.sizes → mid.book.privileged ≡ start.book.privileged → more ≡ desk ++ c ∷ [] →
    IsDeskWalked start mid desk out →
    ((past : Past) (n : ℕ) → Keeps mid past n → (r ≡ reply past.journal mid.book.privileged mid.sizes.regs c.1) × Keeps end (after_desk_line mid.book.privileged mid.sizes past c.1) n) →
    IsDeskWalked start end more (out ++ (c.0, r) ∷ [])
desk_walked_more start mid end desk more c out r sizes privileged is w f = λ past n k.
    let first = w past n k in
    let w0 = (walk_desk start.book.privileged start.sizes past desk).0 in
    let second = f w0 n first.1 in
    let r_is : r ≡ reply w0.journal start.book.privileged start.sizes.regs c.1 = second.0 ∙ (λ i. reply w0.journal (privileged i) (sizes i).regs c.1) in
    let whole = ap (walk_desk start.book.privileged start.sizes past) is ∙ desk_more start.book.privileged start.sizes past desk c in
    let kept = subst (λ (x : List ℕ × Sizes). Keeps end (after_desk_line x.0 x.1 w0 c.1) n) (λ i. (privileged i, sizes i)) second.1 in
    let outs : out ++ (c.0, r) ∷ [] ≡ (walk_desk start.book.privileged start.sizes past desk).1 ++ (c.0, reply w0.journal start.book.privileged start.sizes.regs c.1) ∷ [] = λ i. first.0 i ++ (c.0, r_is i) ∷ [] in
    (outs ∙ sym (ap (λ (x : Past × List (ℕ × Reply)). x.1) whole), subst (λ (x : Past). Keeps end x n) (sym (ap (λ (x : Past × List (ℕ × Reply)). x.0) whole)) kept)

-- what stands at a place
taken_next : {A : Type 0} (xs : List A) (i : ℕ) (x : A) → slice_get xs i ≡ Some x → take (suc i) xs ≡ take i xs ++ x ∷ []
taken_next [] i x e = absurd (cc)
taken_next {A = A} (y ∷ ys) zero x e = ap (λ (o : Option A). unwrap_or o y ∷ []) e
taken_next {A = A} (y ∷ ys) (suc i) x e = ap (λ (zs : List A). y ∷ zs) (taken_next ys i x e)

pub taken_more : {A : Type 0} (xs : List A) (i : ℕ) (x : A) → slice_get xs i ≡ Some x → take (i + 1) xs ≡ take i xs ++ x ∷ []
taken_more xs i x e = let next : suc i ≡ i + 1 = omega arith in subst (λ n. take n xs ≡ take i xs ++ x ∷ []) next (taken_next xs i x e)

pub all_at : {A : Type 0} (P : A → Type 0) (xs : List A) (i : ℕ) (x : A) → AllByRecursion P xs → slice_get xs i ≡ Some x → P x
all_at P [] i x h e = absurd (cc)
all_at {A = A} P (y ∷ ys) zero x h e = subst P (ap (λ (o : Option A). unwrap_or o y) e) h.0
all_at P (y ∷ ys) (suc i) x h e = all_at P ys i x h.1 e

-- ---- one more lane

abbrev pub lanes_pair : Past → List (List (ℕ × LineReceipt)) → Past × List (List (ℕ × LineReceipt))
lanes_pair past out = (past, out)

lanes_more : (sizes : Sizes) (past : Past) (lanes : List (List (ℕ × Call))) (l : List (ℕ × Call)) →
    walk_lanes sizes past (lanes ++ l ∷ []) ≡ lanes_pair (walk_lane sizes (walk_lanes sizes past lanes).0 l).0 ((walk_lanes sizes past lanes).1 ++ (walk_lane sizes (walk_lanes sizes past lanes).0 l).1 ∷ [])
lanes_more sizes past [] l = refl
lanes_more sizes past (m ∷ ms) l =
    let first = walk_lane sizes past m in
    let rest = lanes_more sizes first.0 ms l in
    λ i. lanes_pair (rest i).0 (first.1 ∷ (rest i).1)

size_more : (ls : List (List (ℕ × Call))) (l : List (ℕ × Call)) → calls_made (ls ++ l ∷ []) ≡ calls_made ls + length l
size_more [] l = omega arith
size_more (m ∷ ms) l = let rest = size_more ms l in omega (arith, rest)

pub size_within : (ls : List (List (ℕ × Call))) (i : ℕ) (l : List (ℕ × Call)) → slice_get ls i ≡ Some l → calls_made (take i ls) + length l ≤ calls_made ls
size_within [] i l e = absurd (cc)
size_within (m ∷ ms) zero l e =
    let same : length m ≡ length l = ap (λ (o : Option (List (ℕ × Call))). length (unwrap_or o m)) e in omega (arith, same)
size_within (m ∷ ms) (suc i) l e = let rest = size_within ms i l e in omega (arith, rest)

pub lane_more_of : (start mid end : Tables) (old new : List (List (ℕ × Call))) (l : List (ℕ × Call)) (out : List (List (ℕ × LineReceipt))) (r : List (ℕ × LineReceipt)) → mid.sizes ≡ start.sizes → new ≡ old ++ l ∷ [] →
    AreLanesWalked start mid old out → IsLaneWalked mid end l r → AreLanesWalked start end new (out ++ r ∷ [])
lane_more_of start mid end old new l out r sizes is w f = λ past n k.
    let first = w past n k in
    let w0 = (walk_lanes start.sizes past old).0 in
    let second = f w0 (n + 3 * calls_made old) first.1 in
    let v = walk_lane start.sizes w0 l in
    let r_is : r ≡ v.1 = second.0 ∙ ap (λ (s : Sizes). (walk_lane s w0 l).1) sizes in
    let whole = ap (walk_lanes start.sizes past) is ∙ lanes_more start.sizes past old l in
    let size : calls_made new ≡ calls_made old + length l = ap calls_made is ∙ size_more old l in
    let kept : Keeps end v.0 (n + 3 * calls_made new) =
    keeps_more end v.0 (n + 3 * calls_made old + 3 * length l) (n + 3 * calls_made new) (omega (arith, size))
    (subst (λ (s : Sizes). Keeps end (walk_lane s w0 l).0 (n + 3 * calls_made old + 3 * length l)) sizes second.1) in (
      (λ j. first.0 j ++ r_is j ∷ []) ∙ sym (ap (λ (x : Past × List (List (ℕ × LineReceipt))). x.1) whole),
      subst (λ (x : Past). Keeps end x (n + 3 * calls_made new)) (sym (ap (λ (x : Past × List (List (ℕ × LineReceipt))). x.0) whole)) kept,
    )

-- ---- one more section

abbrev pub sections_pair : Past → List SectionOut → Past × List SectionOut
sections_pair past outs = (past, outs)

sections_more : (privileged : List ℕ) (sizes : Sizes) (past : Past) (ss : List SectionCalls) (s : SectionCalls) →
    walk_sections privileged sizes past (ss ++ s ∷ []) ≡ sections_pair (walk_section privileged sizes (walk_sections privileged sizes past ss).0 s).0
    ((walk_sections privileged sizes past ss).1 ++ (walk_section privileged sizes (walk_sections privileged sizes past ss).0 s).1 ∷ [])
sections_more privileged sizes past [] s = refl
sections_more privileged sizes past (t ∷ ts) s =
    let first = walk_section privileged sizes past t in
    let rest = sections_more privileged sizes first.0 ts s in
    λ i. sections_pair (rest i).0 (first.1 ∷ (rest i).1)

sections_size : (ss : List SectionCalls) (s : SectionCalls) → calls_of_sections (ss ++ s ∷ []) ≡ calls_of_sections ss + calls_made s.lanes
sections_size [] s = omega arith
sections_size (t ∷ ts) s = let rest = sections_size ts s in omega (arith, rest)

-- the step of a loop over sections
pub section_more_of : (start mid end : Tables) (old new : List SectionCalls) (s : SectionCalls) (outs : List SectionOut) (out : SectionOut) → mid.sizes ≡ start.sizes → mid.book.privileged ≡ start.book.privileged → new ≡ old ++ s ∷ [] →
    AreSectionsWalked start mid old outs → IsSectionWalked mid end s out → AreSectionsWalked start end new (outs ++ out ∷ [])
section_more_of start mid end old new s outs out sizes privileged is w f = λ past n k.
    let first = w past n k in
    let w0 = (walk_sections start.book.privileged start.sizes past old).0 in
    let second = f w0 (n + 3 * calls_of_sections old) first.1 in
    let v = walk_section start.book.privileged start.sizes w0 s in
    let out_is : out ≡ v.1 = second.0 ∙ (λ i. (walk_section (privileged i) (sizes i) w0 s).1) in
    let whole = ap (walk_sections start.book.privileged start.sizes past) is ∙ sections_more start.book.privileged start.sizes past old s in
    let size : calls_of_sections new ≡ calls_of_sections old + calls_made s.lanes = ap calls_of_sections is ∙ sections_size old s in
    let kept : Keeps end v.0 (n + 3 * calls_of_sections new) =
    keeps_more end v.0 (n + 3 * calls_of_sections old + 3 * calls_made s.lanes) (n + 3 * calls_of_sections new) (omega (arith, size))
    (subst (λ (x : List ℕ × Sizes). Keeps end (walk_section x.0 x.1 w0 s).0 (n + 3 * calls_of_sections old + 3 * calls_made s.lanes)) (λ i. (privileged i, sizes i)) second.1) in (
      (λ j. first.0 j ++ out_is j ∷ []) ∙ sym (ap (λ (x : Past × List SectionOut). x.1) whole),
      subst (λ (x : Past). Keeps end x (n + 3 * calls_of_sections new)) (sym (ap (λ (x : Past × List SectionOut). x.0) whole)) kept,
    )

-- ---- collections

collecting_more : (ds : List (ℕ × Command)) (c : ℕ × Command) → length (collecting (ds ++ c ∷ [])) ≡ length (collecting ds) + length (collecting (c ∷ []))
collecting_more ds c = ap (λ (xs : List (ℕ × Command)). length xs) (filter-append (λ (c : ℕ × Command). collects c.1) ds (c ∷ [])) ∙ length-append (collecting ds) (collecting (c ∷ []))

pub collecting_within : (ds : List (ℕ × Command)) (i : ℕ) (d : ℕ × Command) → i < length ds → length (collecting (take i ds)) + length (collecting (get_or ds i d ∷ [])) ≤ length (collecting ds)
collecting_within [] i d lt = absurd (omega (arith, lt))
collecting_within (c ∷ cs) zero d lt = elim (collects c.1) as (λ b. 0 + length (cond b (c ∷ []) []) ≤ length (cond b (c ∷ collecting cs) (collecting cs))) [ true ↦ omega arith | false ↦ omega arith ]
collecting_within (c ∷ cs) (suc i) d lt =
    let rest = collecting_within cs i d (omega (arith, lt)) in
    elim (collects c.1) as (λ b. length (cond b (c ∷ collecting (take i cs)) (collecting (take i cs))) + length (collecting (get_or cs i d ∷ [])) ≤ length (cond b (c ∷ collecting cs) (collecting cs))) [
      | true ↦ omega (arith, rest)
      | false ↦ omega (arith, rest)
    ]

pub one_collecting : (c : ℕ × Command) → collects c.1 ≡ true → length (collecting (c ∷ [])) ≡ 1
one_collecting c e = ap (λ b. length (cond b (c ∷ []) [])) e

-- a command ends at most one phase, and only where it collects
abbrev count_phases : Past → ℕ
count_phases p = length p.phases

pub phases_after : (privileged : List ℕ) (sizes : Sizes) (past : Past) (c : ℕ × Command) → count_phases (after_desk_line privileged sizes past c.1) ≤ length past.phases + length (collecting (c ∷ []))
phases_after privileged sizes past c =
    let e = ended_phase past c.1 in
    let w : Past = record past { journal = after_command privileged sizes.regs past.journal c.1 } in
    elim (collects c.1) as (λ b. count_phases (if b && is_done (reply past.journal privileged sizes.regs c.1) then with_phase w e else w) ≤ length past.phases + length (cond b (c ∷ []) [])) [
      | false ↦ omega arith
      | true ↦ elim (is_done (reply past.journal privileged sizes.regs c.1)) as (λ b. count_phases (if b then with_phase w e else w) ≤ length past.phases + 1) [
        | true ↦ omega (arith, length-append past.phases (e ∷ []))
        | false ↦ omega arith
      ]
    ]

pub collecting_here : (ds : List (ℕ × Command)) (i : ℕ) (item : ℕ × Command) → i < length ds → item ≡ get_or ds i item →
    length (collecting (take i ds)) + length (collecting (item ∷ [])) ≤ length (collecting ds)
collecting_here ds i item lt is = subst (λ (x : ℕ × Command). length (collecting (take i ds)) + length (collecting (x ∷ [])) ≤ length (collecting ds)) (sym is) (collecting_within ds i item lt)

pub collecting_next : (ds : List (ℕ × Command)) (i : ℕ) (item : ℕ × Command) → i < length ds → item ≡ get_or ds i item →
    length (collecting (take (i + 1) ds)) ≡ length (collecting (take i ds)) + length (collecting (item ∷ []))
collecting_next ds i item lt is =
    ap (λ (xs : List (ℕ × Command)). length (collecting xs)) (take_more ds i item lt ∙ ap (λ (x : ℕ × Command). take i ds ++ x ∷ []) (sym is)) ∙ collecting_more (take i ds) item
