-- The cursor: a raw reader, and the entry or null that it holds.
use Rattle.std.specs.Prelude.{Bool, true, false, not, cond, ◌&&◌, List, ℕ, zero, suc, ◌+◌, ◌-◌, ◌^◌, leb, ℤ, pos, nat_abs, length}
use Rattle.reader.specs.Answer.{Answer, got, refused, and_then, if_some, Read}
use Rattle.reader.specs.declared.common.Encoding.{Encoding}
use Rattle.reader.specs.declared.common.Format.TheVariants.{Dwarf32}
use Rattle.reader.specs.declared.endianity.RunTimeEndian.{RunTimeEndian}
use Rattle.entries.specs.Entry.{Entry, null_entry, is_null, jump_of}
use Rattle.entries.specs.Raw.{keeps_raw, moved_to, start_of, opened, empty_raw, source_of}
use Rattle.entries.specs.Read.{abbreviation_at, depth_after, entry_at, same_depth}
use Rattle.entries.specs.declared.raw.EntriesRaw.{EntriesRaw}

pub record Cursor : Type 0 where
  pub input : EntriesRaw
  pub entry : Entry

-- 01: a new cursor holds a null with offset and depth 0
abbrev pub new_cursor : ℕ → EntriesRaw → Cursor
new_cursor most w = record { input = w; entry = null_entry most 0 (pos 0) }

unfoldable pub opened_cursor : ℕ → ℕ → ℕ → Encoding → RunTimeEndian → Answer Cursor
opened_cursor most count start c e = and_then (opened count start c e) (λ w. got (new_cursor most w))

-- an opening that refuses gives no state: beside it stands one that every call that reads refuses with 1, since 01's sizes let no bytes start there
abbrev pub no_cursor : ℕ → RunTimeEndian → Cursor
no_cursor most e =
    new_cursor most
    (start_of (record { start = 2 ^ 63; encoding = record { address_size = 0; format = Dwarf32; version = 0 }; endian = e }))

pub record OpenedCursor : Type 0 where
  pub answer : Answer (Unit {0})
  pub cursor : Cursor

abbrev pub or_no_cursor : ℕ → RunTimeEndian → Answer Cursor → OpenedCursor
or_no_cursor most e (got c) = record { answer = got tt; cursor = c }
or_no_cursor most e (refused n) = record { answer = refused n; cursor = no_cursor most e }

-- 01's sizes of a state over so many bytes
abbrev pub keeps_cursor : ℕ → ℕ → Cursor → Bool
keeps_cursor most count c =
    keeps_raw count c.input && (leb (nat_abs c.entry.depth) c.input.position && leb c.entry.count most)

-- gimli's current: the entry held, and whether it is no null
pub record Current : Type 0 where
  pub is_there : Bool
  pub entry : Entry

unfoldable pub current_of : Cursor → Current
current_of c = record { is_there = not (is_null c.entry); entry = c.entry }

-- what a call says, whether something was reached, and the state that it leaves, which holds it
pub record Called : Type 0 where
  pub answer : Answer Bool
  pub cursor : Cursor

-- 01, question 1: before all reading, and the state is kept
abbrev pub judged_call : Bool → Cursor → Called → Called
judged_call b c r = cond b r (record { answer = refused 1; cursor = c })

-- 01, "Walks": an entry's jump leads to its target, at the entry's own depth
unfoldable pub jumped : ℕ → EntriesRaw → Entry → EntriesRaw
jumped count w e =
    if_some (jump_of e (w.start + w.position) (w.start + count)) w (λ t. moved_to w (t - w.start) e.depth)

-- where the item after what is held is read: just behind it, or where its jump leads
abbrev pub plainly : Cursor → EntriesRaw
plainly c = c.input

abbrev pub by_jump : ℕ → Cursor → EntriesRaw
by_jump count c = jumped count c.input c.entry

-- what is wanted: an entry that is no null, or whatever stands at a depth
abbrev pub is_entry : Entry → Bool
is_entry e = not (is_null e)

abbrev pub stands_at : ℤ → Entry → Bool
stands_at k e = same_depth e.depth k

-- an item that was reached: an entry is the answer, a null is "no more"
abbrev pub reached : Cursor → Called
reached c = record { answer = got (is_entry c.entry); cursor = c }

-- on from an item that is not wanted
abbrev pub turned : (Entry → Bool) → (Cursor → Called) → Answer Bool → Cursor → Called
turned wanted again (got true) c = cond (wanted c.entry) (reached c) (again c)
turned wanted again (got false) c = record { answer = got false; cursor = c }
turned wanted again (refused n) c = record { answer = refused n; cursor = c }

abbrev pub go_on : (Entry → Bool) → (Cursor → Called) → Called → Called
go_on wanted again r = turned wanted again r.answer r.cursor

-- whatever was reached is the answer
abbrev pub settled : Called → Called
settled r = go_on (λ (e : Entry). true) reached r

module _ (most : ℕ) (s rows specs : List ℕ) where
  -- the depth after the code that is read next
  abbrev pub depth_past : EntriesRaw → ℤ
  depth_past w = depth_after (abbreviation_at most s rows specs w.position) w.depth

  -- what was read is held. 01, "After a refusal": at the end, the depth as after the code, with a null of the refused entry's offset and depth
  unfoldable pub held : EntriesRaw → Answer (Read Entry) → Called
  held w (got r) =
      record { answer = got true; cursor = record { input = moved_to w r.next (depth_past w); entry = r.value } }
  held w (refused n) =
      record {
        answer = refused n;
        cursor = record { input = moved_to w (length s) (depth_past w); entry = null_entry most (w.start + w.position) w.depth };
      }

  -- the item that is read next
  abbrev pub item_next : EntriesRaw → Answer (Read Entry)
  item_next w = entry_at most (source_of w) s rows specs w.position w.depth

  -- the next item; at the end a null of the offset and depth last read
  unfoldable pub advanced : EntriesRaw → ℕ → ℤ → Called
  advanced w offset depth =
      cond (empty_raw (length s) w)
      (record { answer = got false; cursor = record { input = w; entry = null_entry most offset depth } })
      (held w (item_next w))

  -- gimli's next_entry
  unfoldable pub next_entry : Cursor → Called
  next_entry c = judged_call (keeps_cursor most (length s) c) c (advanced c.input c.entry.offset c.entry.depth)

  -- the next item, where an entry is the answer and a null is "no more"
  unfoldable pub next_child : Cursor → Called
  next_child c = judged_call (keeps_cursor most (length s) c) c (settled (advanced c.input c.entry.offset c.entry.depth))

  -- on to the first item that is wanted, each read from where `from` says; of n items more at most
  unfoldable pub seek_within : (Cursor → EntriesRaw) → (Entry → Bool) → ℕ → Cursor → Called
  seek_within from wanted zero c = advanced (from c) c.entry.offset c.entry.depth
  seek_within from wanted (suc n) c =
      go_on wanted (seek_within from wanted n) (advanced (from c) c.entry.offset c.entry.depth)

  -- each takes a byte, so that the bytes run out first (`seek_step`)
  unfoldable pub seek : (Cursor → EntriesRaw) → (Entry → Bool) → Cursor → Called
  seek from wanted c = seek_within from wanted (length s - c.input.position) c

  -- gimli's next_dfs: the next entry that is no null
  unfoldable pub next_dfs : Cursor → Called
  next_dfs c = judged_call (keeps_cursor most (length s) c) c (seek plainly is_entry c)

  -- on to the next item at a depth, by the jumps of the entry held and of those passed
  unfoldable pub to_depth : ℤ → Cursor → Called
  to_depth k c = seek (by_jump (length s)) (stands_at k) c

  unfoldable pub next_at_depth : ℤ → Cursor → Called
  next_at_depth k c = judged_call (keeps_cursor most (length s) c) c (to_depth k c)

  -- gimli's next_sibling
  unfoldable pub next_sibling : Cursor → Called
  next_sibling c =
      judged_call (keeps_cursor most (length s) c) c
      (cond (is_null c.entry) (record { answer = got false; cursor = c }) (to_depth c.entry.depth c))
