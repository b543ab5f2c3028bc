-- The steps of looking for where messages begin again.
use Rattle.std.proofs.Common.{◌≡◌, ℕ, ◌<◌, ◌≤◌, List, [], ◌++◌, Bool, true, length, drop, sym, subst, arith, inl, inr}
use Rattle.std.proofs.lemmas.Bool.{cases_lt}
use Rattle.std.proofs.lemmas.List.{drop_all}
use Rattle.dbus_value_model.specs.declared.limits.Limits.{Limits}
use Rattle.dbus_header.specs.NoMessage.{BeginsWithNone}
use Rattle.dbus_resync.specs.Search.{BeginsAt, Finds}
use Rattle.dbus_resync.specs.declared.found.Found.{Found}
use Rattle.dbus_resync.specs.declared.found.Found.TheVariants.{At}
use Rattle.dbus_resync.specs.declared.found.Searched.{Searched}
use Rattle.dbus_resync.proofs.DamagedLaws.{begins_inside}
use Rattle.dbus_stream.specs.Dropping.{HasDropped}
use Rattle.dbus_stream.specs.GoingOn.{LeadsNowhere, LeadsOn, Resumes, Seeks}
use Rattle.dbus_stream.specs.StatedSizes.{StatesNone, StatesSize, WantsMore}
use Rattle.dbus_stream.specs.declared.refused.Refused.{Refused}
use Rattle.dbus_stream.proofs.SizeSteps.{none_dropped, size_once, sizes_tell}

-- what is dropped of a message of which nothing was dropped before
pub dropped_alone : (old new : Refused) (bytes : List ℕ) → old.dropped ≡ 0 → ((gone : List ℕ) → HasDropped old gone → HasDropped new (gone ++ bytes)) → HasDropped new bytes
dropped_alone old new bytes zero more = more [] (none_dropped old zero)

module _ (limits : Limits) where
  -- more bytes are wanted than are there
  pub wants_past : (bytes : List ℕ) → WantsMore limits bytes → (size : ℕ) → StatesSize limits bytes size → length bytes < size
  wants_past bytes wants size s = elim (cases_lt (length bytes) size) [
    | inl short ↦ short
    | inr there ↦ absurd (((sizes_tell limits bytes).1 size s).1 there wants)
  ]

  -- no bytes begin no message
  nothing_wanted : WantsMore limits [] → ⊥
  nothing_wanted (inl few) = cc (few.1)
  nothing_wanted (inr more) = let sixteen = more.1.there in omega (arith, sixteen)

  pub none_past : (bytes : List ℕ) → StatesNone limits bytes → (size : ℕ) → StatesSize limits bytes size → length bytes < size
  none_past bytes none size s = absurd (((sizes_tell limits bytes).1 size s).0 none)

  module _ (window : ℕ) (bytes : List ℕ) where
    pub led_inside : (size : ℕ) → LeadsOn limits window bytes size → size ≤ length bytes
    led_inside size l = elim l.to [
      | inl begins ↦ (let inside = begins_inside limits bytes size begins in omega (arith, inside))
      | inr (inl ends) ↦ (let end = ends.0 in omega (arith, end))
      | inr (inr wants) ↦ elim (cases_lt (length bytes) size) [ inl past ↦ absurd (nothing_wanted (subst (WantsMore limits) (drop_all size bytes (omega (arith, past))) wants.0)) | inr there ↦ there ]
    ]

    -- so many bytes are not there
    pub nowhere_past : ((size : ℕ) → StatesSize limits bytes size → length bytes < size) → LeadsNowhere limits window bytes
    nowhere_past past size l = (let short = past size l.states in let inside = led_inside size l in omega (arith, short, inside))

    -- or no message begins behind them, nor does the input end
    pub nowhere_there : (end : ℕ) → StatesSize limits bytes end → (end ≡ length bytes → end < window → ⊥) → BeginsWithNone limits (drop end bytes) → (window ≤ length bytes → WantsMore limits (drop end bytes) → ⊥) → LeadsNowhere limits window bytes
    nowhere_there end s open_ none unwanted size l =
        let same : size ≡ end = size_once limits bytes end size s l.states in
        elim l.to [
          | inl begins ↦ (let b = subst (BeginsAt limits bytes) same begins in none b.0 b.1 b.2 b.3)
          | inr (inl ends) ↦ (let all = ends.0 in let few = ends.1 in open_ (omega (arith, same, all)) (omega (arith, same, few)))
          | inr (inr wants) ↦ unwanted wants.1 (subst (λ (n : ℕ). WantsMore limits (drop n bytes)) same wants.0)
        ]

  -- what is found begins among the bytes
  pub found_inside : (bytes : List ℕ) (found : Found) → Finds limits bytes found → (offset : ℕ) → found ≡ At offset → offset ≤ length bytes
  found_inside bytes found finds offset is = (let inside = begins_inside limits bytes offset (subst (Finds limits bytes) is finds).begins in omega (arith, inside))

  -- if that is looked for
  pub seeks_resumed : (window effort : ℕ) (bytes : List ℕ) (s : Searched) (by_size : Bool) → by_size ≡ true → Resumes limits window effort bytes s → Seeks by_size limits window effort bytes s
  seeks_resumed window effort bytes s by_size on r = subst (λ (b : Bool). Seeks b limits window effort bytes s) (sym on) r
