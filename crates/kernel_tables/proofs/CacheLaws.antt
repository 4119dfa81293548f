-- What caches keep.
use Rattle.std.proofs.Common.{◌≡◌, ◌∙◌, Bool, true, false, not, cond, ◌&&◌, Option, Some, None, refl, sym, ap, ◌⊎◌, inl, inr}
use Rattle.std.proofs.lemmas.Bool.{cases_Bool}
use Rattle.paging_core.specs.Area.{in_area}
use Rattle.paging_core.specs.Walk.{Place}
use Rattle.kernel_tables.specs.Flush.{global_place, ReloadedCachesAgree, CachesHideTheArea, TableCachesAgree}
use Rattle.kernel_tables.specs.TableState.{leads}

-- what a new CR3 leaves was there, and is global
left : (o : Option Place) (place : Place) → global_place o ≡ Some place → (o ≡ Some place) × (place.global ≡ true)
left None place e = absurd (cc)
left (Some x) place e = go x.global refl e
  where
    go : (b : Bool) → x.global ≡ b → cond b (Some x) None ≡ Some place → (◌≡◌ {A = Option Place} (Some x) (Some place)) × (place.global ≡ true)
    go true is e = let one : x ≡ place = cc in (e, sym (ap (λ (p : Place). p.global) one) ∙ is)
    go false is e = absurd (cc)

pub reloaded : ReloadedCachesAgree
reloaded cache flushed old new enough local agrees page place canonical kept =
    let was = left (cache page) place kept in
    let led = agrees page place canonical was.0 in
    go led was.1 (cases_Bool (flushed page))
  where
    go : leads old page ≡ Some place → place.global ≡ true → (flushed page ≡ true) ⊎ (flushed page ≡ false) → leads new page ≡ Some place
    go led global (inl e) = let no_global = local page place canonical e led in absurd (cc)
    go led global (inr e) = enough page place canonical e led

user_hidden : (shared user : Bool) → user ≡ true → (shared && not user) ≡ false
user_hidden true user e = rw e refl
user_hidden false user e = refl

pub hidden : CachesHideTheArea
hidden cache area earlier page place kept user =
    let was = earlier page place kept in
    let state = was.0 in
    ap (λ a. in_area a place.frame) (sym was.2) ∙ was.1.apart page place was.3 (user_hidden state.shared place.user user)

pub tables : TableCachesAgree
tables cache old new stay agrees level number table lt kept = stay level number table lt (agrees level number table lt kept)
