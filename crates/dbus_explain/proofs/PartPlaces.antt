-- Where the parts of an explanation are in its lines.
use Rattle.std.proofs.Common.{◌≡◌, ℕ, ◌+◌, List, ◌++◌, Option, None, Some, codes, length, append_assoc, append-nil, length-append, sym, ap, subst, ◌∙◌, arith}
use Rattle.dbus_show.specs.ShownMessages.{line_feeds}
use Rattle.dbus_show.specs.Escapes.{escaped}
use Rattle.dbus_show.specs.declared.escapes.Escapes.TheVariants.{Line}
use Rattle.dbus_room.specs.Counting.{counted}
use Rattle.dbus_explain.specs.Explained.{ArePartsOf, IsExplained, IsPartIf, before_name, before_rule, place_in, place_line, window}
use Rattle.dbus_explain.specs.Heads.{IsHead, IsHeadPart, head_part, head_shown}
use Rattle.dbus_explain.specs.Looks.{look_text}
use Rattle.dbus_explain.specs.Names.{IsNameOf, text_part}
use Rattle.dbus_explain.specs.Rules.{rule_text}
use Rattle.dbus_explain.specs.declared.explanation.Explanation.{Explanation}
use Rattle.dbus_explain.specs.declared.explanation.LinesPart.{LinesPart}
use Rattle.dbus_explain.specs.declared.message.Refused.{Refused}
use Rattle.dbus_explain.specs.declared.search.StatedText.{StatedText}
use Rattle.dbus_explain.proofs.ThreeLines.{message_lines}

-- the name is behind the front of its line
name_apart : (refused : Refused) (at : ℕ) (name told rest : List ℕ) → place_line refused at (name ++ told) ++ rest ≡ before_name refused at ++ (name ++ (told ++ rest))
name_apart refused at name told rest = simp (append_assoc, append-nil)

-- the rule is behind the lines before it, and the front of its own
rule_apart : (place head shown more : List ℕ) → place ++ (head ++ (codes "\n " ++ (shown ++ (codes "\n  " ++ more))))
    ≡ (place ++ (head ++ (codes "\n" ++ ((codes " " ++ shown) ++ codes "\n  ")))) ++ more
rule_apart place head shown more =
    let ends = codes "\n" ++ ((codes " " ++ shown) ++ codes "\n  ") in
    sym (append_assoc place (head ++ ends) more
    ∙ ap (λ (s : List ℕ). place ++ s) (append_assoc head ends more ∙ ap (λ (s : List ℕ). head ++ (codes "\n " ++ s)) (append_assoc shown (codes "\n  ") more)))

-- the head is behind the line of the place
head_placed : (front more : List ℕ) (n : ℕ) → n ≡ counted (length front) → (head : Option (List ℕ)) (place : Option LinesPart) → IsHeadPart n head place
    → IsPartIf (front ++ (head_part head ++ more)) (front ++ codes "\n  ") (head_shown head) place
head_placed front more n long None None h = tt
head_placed front more n long None (Some place) h = absurd h
head_placed front more n long (Some head) None h = absurd h
head_placed front more n long (Some head) (Some place) h =
    let size = length-append front (codes "\n  ") in
    record {
      after = more;
      text_is = sym (append_assoc front (codes "\n  ") (escaped Line head ++ more));
      start_is = omega (arith, h.0, long, size);
      end_is = omega (arith, h.1, long, size);
    }

module _ (refused : Refused) (name : List ℕ) (stated : Option StatedText) (head : Option (List ℕ)) (parts : Explanation) where
  abbrev front : (at : ℕ) → List ℕ
  front at = place_line refused at (name ++ text_part stated)

  -- all lines
  abbrev pub text_at : (at : ℕ) → List ℕ
  text_at at = front at ++ (head_part head ++ (codes "\n " ++ (window refused.bytes.now at ++ (codes "\n  " ++ (rule_text refused.fault.reason ++ (look_text refused ++ codes "\n"))))))

  -- what is known of the parts as they are written
  pub record Written (at : ℕ) : Type 0 where
    pub named : IsNameOf refused.bytes.now refused.fault.reason at name stated
    pub headed : IsHead refused.bytes.now at refused.number head
    pub one_line : line_feeds (rule_text refused.fault.reason) ≡ 0
    pub all : parts.length ≡ counted (length (text_at at))
    pub name_start : parts.name.start ≡ counted (length (before_name refused at))
    pub name_end : parts.name.end ≡ counted (length (before_name refused at) + length name)
    pub n : ℕ
    pub line : n ≡ counted (length (front at))
    pub head_in : IsHeadPart n head parts.head
    pub rule_start : parts.rule.start ≡ counted (length (before_rule refused at name stated head))
    pub rule_end : parts.rule.end ≡ counted (length (before_rule refused at name stated head) + length (rule_text refused.fault.reason))
    pub stated_is : parts.text ≡ stated

  abbrev Told : (at : ℕ) → Type 0
  Told at = (is : IsExplained refused (text_at at)) × ArePartsOf is parts

  abbrev place : ℕ
  place = place_in refused.bytes.now refused.fault

  told_in : Written place → Told place
  told_in w =
      let rule = rule_text refused.fault.reason in
      let more = look_text refused ++ codes "\n" in
      let shown = window refused.bytes.now place in (
        record { name = name; stated = stated; head = head; named = w.named; headed = w.headed; lines = message_lines refused place name stated head w.named w.one_line },
        record {
          length_is = w.all;
          name = record { after = text_part stated ++ (head_part head ++ (codes "\n " ++ (shown ++ (codes "\n  " ++ (rule ++ more))))); text_is = name_apart refused place name (text_part stated) _; start_is = w.name_start; end_is = w.name_end };
          head = head_placed (front place) (codes "\n " ++ (shown ++ (codes "\n  " ++ (rule ++ more)))) w.n w.line head parts.head w.head_in;
          rule = record { after = more; text_is = rule_apart (front place) (head_part head) shown (rule ++ more); start_is = w.rule_start; end_is = w.rule_end };
          stated = w.stated_is;
        },
      )

  pub told : (at : ℕ) → at ≡ place → Written at → Told at
  told at is w = subst Told (sym is) (told_in (subst Written is w))
