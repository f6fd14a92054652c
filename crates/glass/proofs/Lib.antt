-- Results: what holds of a result. Rooms: what a screen has of its rooms.
mod Results
mod Rooms
