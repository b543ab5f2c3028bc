-- The laws that sums owe as a sink of calls.
use Rattle.std.proofs.Common.{◌≡◌, List, [], ◌++◌, Bool, true, false, refl, sym, subst, append-nil, append_assoc}
use Rattle.dbus_call_lines.specs.Keeping.{EndedCall}
use Rattle.dbus_call_members.specs.Summing.{Adds, AreSums, is_short}
use Rattle.dbus_call_members.specs.declared.member_sums.MemberSums.{MemberSums}

not_short : (b c : Bool) → (b ≡ true → c ≡ true) → c ≡ false → b ≡ false
not_short true c h e = let t = h refl in cc
not_short false c h e = refl

pub nothing : (a : MemberSums) → Adds a [] a
nothing a = record {
  stays = λ h. h;
  adds = λ h earlier are. subst (λ (l : List EndedCall). AreSums a l) (sym (append-nil earlier)) are;
}

pub joins : (a b c : MemberSums) (s t : List EndedCall) → Adds a s b → Adds b t c → Adds a (s ++ t) c
joins a b c s t p q = record {
  stays = λ h. q.stays (p.stays h);
  adds = λ h earlier are.
      let first = p.adds (not_short (is_short b) (is_short c) q.stays h) earlier are in
      subst (λ (l : List EndedCall). AreSums c l) (append_assoc earlier s t) (q.adds h (earlier ++ s) first);
}
